-- Triggers: the first fault of one, and what it is.
use Rattle.std.specs.Prelude.{ℕ, List, Option, codes}
use Rattle.serde_json.specs.Data.{Data}
use Rattle.export_fields.specs.Fault.{◌then◌}
use Rattle.export_fields.specs.Fields.{not_object, required_text_fault, text_fault, text_at}
use Rattle.export_fields.specs.ListOf.{list_fault, list_at}
use Rattle.export_fields.specs.Objects.{object_fault, object_at}
use Rattle.export_fields.specs.Params.{not_param, as_param}
use Rattle.export_entries.specs.Conditions.{condition_fault, written_condition}
use Rattle.export_entries.specs.declared.triggers.WrittenTrigger.{WrittenTrigger}

-- the fault of a trigger
unfoldable pub trigger_fault : Data → Option (List ℕ)
trigger_fault d =
    not_object d
    then required_text_fault (codes "triggerId") d
    then required_text_fault (codes "type") d
    then text_fault (codes "name") d
    then list_fault condition_fault (codes "customEventFilter") d
    then list_fault condition_fault (codes "filter") d
    then list_fault condition_fault (codes "autoEventFilter") d
    then object_fault not_param (codes "eventName") d
    then list_fault not_param (codes "parameter") d

-- the trigger that a value stands for
unfoldable pub written_trigger : Data → WrittenTrigger
written_trigger d = record {
  id = text_at (codes "triggerId") d;
  kind = text_at (codes "type") d;
  name = text_at (codes "name") d;
  custom = list_at written_condition (codes "customEventFilter") d;
  filter = list_at written_condition (codes "filter") d;
  auto = list_at written_condition (codes "autoEventFilter") d;
  event_name = object_at as_param (codes "eventName") d;
  params = list_at as_param (codes "parameter") d;
}
