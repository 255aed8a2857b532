-- The lists by which names become numbers.
use Rattle.std.specs.Prelude.{◌<◌, ◌^◌, ℕ, List, length, map}
use Rattle.export_entries.specs.declared.entries.WrittenEntries.{WrittenEntries}
use Rattle.export_names.specs.Names.{NameLists}
use Rattle.export_names.specs.Types.{TypeLists, types_of}

-- the names of variables, the types that templates have, the numbers of triggers and the names of
-- tags
pub record Lists : Type 0 where
  pub names : NameLists
  pub types : TypeLists
  pub triggers : List (List ℕ)
  pub tags : List (List ℕ)

-- the lists of a container, in the order of its entries
abbrev pub lists_of : WrittenEntries → Lists
lists_of written = record {
  names =
      record {
        variables =
            map (λ variable. variable.name) written.variables;
        built_ins =
            map (λ built_in. built_in.name) written.built_ins;
      };
  types = types_of written.templates;
  triggers = map (λ trigger. trigger.id) written.triggers;
  tags = map (λ tag. tag.name) written.tags;
}

-- few enough entries of each kind that each place has a number of 32 bits
pub record HasFewEntries (written : WrittenEntries) : Type 0 where
  pub tags : length written.tags < 2 ^ 32
  pub triggers : length written.triggers < 2 ^ 32
  pub variables : length written.variables < 2 ^ 32
  pub built_ins : length written.built_ins < 2 ^ 32
  pub templates : length written.templates < 2 ^ 32
