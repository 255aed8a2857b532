-- The variables of an export as those of the model.
use Rattle.std.specs.Prelude.{ℕ, List, [], ◌∷◌, Bool, true, false, Option, Some, None, option_map}
use Rattle.std.specs.Prelude.{unwrap_or, codes}
use Rattle.std.specs.Option.{option_map_or}
use Rattle.folded_words.specs.Words.{among}
use Rattle.export_entries.specs.declared.formats.WrittenCase.{WrittenCase}
use Rattle.export_entries.specs.declared.formats.WrittenCase.TheVariants.{AsItIs, Lower, Upper}
use Rattle.export_entries.specs.declared.formats.WrittenFormat.{WrittenFormat}
use Rattle.export_entries.specs.declared.variables.WrittenVariable.{WrittenVariable}
use Rattle.export_model.specs.declared.variables.Format.{Format}
use Rattle.export_model.specs.declared.variables.Variable.{Variable}
use Rattle.export_model.specs.declared.variables.VariableKind.{VariableKind}
use Rattle.export_model.specs.declared.variables.VariableKind.TheVariants.{Layer, Constant, Cookie}
use Rattle.export_model.specs.declared.variables.VariableKind.TheVariants.{Global, Url, Referrer}
use Rattle.export_model.specs.declared.variables.VariableKind.TheVariants.{EventName, Lookup}
use Rattle.export_model.specs.declared.variables.VariableKind.TheVariants.{RegexTable, Template}
use Rattle.export_model.specs.declared.variables.VariableKind.TheVariants.{Unknown}
use Rattle.export_names.specs.Names.{NameLists}
use Rattle.export_names.specs.Params.{param_of, params_of}
use Rattle.export_names.specs.Lists.{Lists}
use Rattle.export_names.specs.Types.{TypeLists, template_at}

-- the kinds of variables that are built, by their types
abbrev pub variable_words : List (List ℕ × VariableKind)
variable_words =
    (codes "v", Layer)
    ∷ (codes "c", Constant)
    ∷ (codes "k", Cookie)
    ∷ (codes "j", Global)
    ∷ (codes "u", Url)
    ∷ (codes "f", Referrer)
    ∷ (codes "e", EventName)
    ∷ (codes "smm", Lookup)
    ∷ (codes "remm", RegexTable)
    ∷ []

-- the kind of a type that is not built: the first template that it uses, else none that is known
abbrev pub custom_kind : TypeLists → List ℕ → VariableKind
custom_kind types kind = option_map_or Template (template_at types kind) (Unknown kind)

-- the kind of a variable of this type
abbrev pub variable_kind : TypeLists → List ℕ → VariableKind
variable_kind types kind = unwrap_or (among variable_words kind) (custom_kind types kind)

-- a text is lower-cased
abbrev pub is_lower : WrittenCase → Bool
is_lower AsItIs = false
is_lower Lower = true
is_lower Upper = false

-- a text is upper-cased
abbrev pub is_upper : WrittenCase → Bool
is_upper AsItIs = false
is_upper Lower = false
is_upper Upper = true

-- the format that a written one stands for: an absent one changes nothing
abbrev pub format_of : NameLists → Option WrittenFormat → Format
format_of names None =
    record { lower = false; upper = false; null = None; undefined = None; yes = None; no = None }
format_of names (Some written) = record {
  lower = is_lower written.case;
  upper = is_upper written.case;
  null = option_map (param_of names) written.null;
  undefined = option_map (param_of names) written.undefined;
  yes = option_map (param_of names) written.yes;
  no = option_map (param_of names) written.no;
}

-- the variable that a written one stands for
abbrev pub variable_of : Lists → WrittenVariable → Variable
variable_of lists written = record {
  id = written.id;
  name = written.name;
  kind = variable_kind lists.types written.kind;
  params = params_of lists.names written.params;
  format = format_of lists.names written.format;
}
