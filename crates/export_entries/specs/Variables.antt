-- Variables and built-in variables: the first fault of one, and what it is.
use Rattle.std.specs.Prelude.{ℕ, List, Option, codes}
use Rattle.serde_json.specs.Data.{Data}
use Rattle.export_fields.specs.Fault.{◌then◌}
use Rattle.export_fields.specs.Fields.{not_object, required_text_fault, text_at}
use Rattle.export_fields.specs.ListOf.{list_fault, list_at}
use Rattle.export_fields.specs.Objects.{object_fault, object_at}
use Rattle.export_fields.specs.Params.{not_param, as_param}
use Rattle.export_entries.specs.Formats.{format_fault, written_format}
use Rattle.export_entries.specs.declared.variables.WrittenBuiltIn.{WrittenBuiltIn}
use Rattle.export_entries.specs.declared.variables.WrittenVariable.{WrittenVariable}

-- the fault of a variable
unfoldable pub variable_fault : Data → Option (List ℕ)
variable_fault d =
    not_object d
    then required_text_fault (codes "variableId") d
    then required_text_fault (codes "name") d
    then required_text_fault (codes "type") d
    then list_fault not_param (codes "parameter") d
    then object_fault format_fault (codes "formatValue") d

-- the variable that a value stands for
unfoldable pub written_variable : Data → WrittenVariable
written_variable d = record {
  id = text_at (codes "variableId") d;
  name = text_at (codes "name") d;
  kind = text_at (codes "type") d;
  params = list_at as_param (codes "parameter") d;
  format = object_at written_format (codes "formatValue") d;
}

-- the fault of a built-in variable
unfoldable pub built_in_fault : Data → Option (List ℕ)
built_in_fault d =
    not_object d
    then required_text_fault (codes "type") d
    then required_text_fault (codes "name") d

-- the built-in variable that a value stands for
unfoldable pub written_built_in : Data → WrittenBuiltIn
written_built_in d = record {
  kind = text_at (codes "type") d;
  name = text_at (codes "name") d;
}
