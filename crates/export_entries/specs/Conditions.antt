-- Conditions: the first fault of one, and what it is.
use Rattle.std.specs.Prelude.{ℕ, List, Option, codes}
use Rattle.serde_json.specs.Data.{Data}
use Rattle.export_fields.specs.Fault.{◌then◌}
use Rattle.export_fields.specs.Fields.{not_object, text_fault, text_at}
use Rattle.export_fields.specs.ListOf.{list_fault, list_at}
use Rattle.export_fields.specs.Params.{not_param, as_param}
use Rattle.export_entries.specs.declared.conditions.WrittenCondition.{WrittenCondition}

-- the fault of a condition
unfoldable pub condition_fault : Data → Option (List ℕ)
condition_fault d =
    not_object d
    then text_fault (codes "type") d
    then list_fault not_param (codes "parameter") d

-- the condition that a value stands for
unfoldable pub written_condition : Data → WrittenCondition
written_condition d = record {
  kind = text_at (codes "type") d;
  params = list_at as_param (codes "parameter") d;
}
