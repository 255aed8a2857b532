-- Ids and names that stand twice.
use Rattle.std.specs.Prelude.{ℕ, List, [], map, Option, option_map, codes}
use Rattle.text_places.specs.Places.{first_repeat}
use Rattle.export_fields.specs.Fault.{in_key, in_index, ◌then◌}
use Rattle.export_entries.specs.declared.entries.WrittenEntries.{WrittenEntries}

-- the path of an entry of the list at a key
abbrev pub entry_at : List ℕ → ℕ → List ℕ
entry_at key at = in_key key (in_index at [])

-- the path of the first entry of a list that has the text of an earlier one
abbrev pub repeated : List ℕ → List (List ℕ) → Option (List ℕ)
repeated key texts = option_map (entry_at key) (first_repeat texts)

-- the path of the first entry that has the id of an earlier one of its list
unfoldable pub duplicate_id : WrittenEntries → Option (List ℕ)
duplicate_id written =
    repeated (codes "tag") (map (λ tag. tag.id) written.tags)
    then repeated (codes "trigger") (map (λ trigger. trigger.id) written.triggers)
    then repeated (codes "variable") (map (λ variable. variable.id) written.variables)
    then repeated (codes "customTemplate") (map (λ template. template.id) written.templates)

-- the path of the first tag that has the name of an earlier one, else of the first such variable
unfoldable pub duplicate_name : WrittenEntries → Option (List ℕ)
duplicate_name written =
    repeated (codes "tag") (map (λ tag. tag.name) written.tags)
    then repeated (codes "variable") (map (λ variable. variable.name) written.variables)
