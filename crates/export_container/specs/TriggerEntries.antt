-- The triggers of an export as those of the model.
use Rattle.export_entries.specs.declared.triggers.WrittenTrigger.{WrittenTrigger}
use Rattle.export_model.specs.declared.triggers.Trigger.{Trigger}
use Rattle.export_container.specs.Conditions.{conditions_of}
use Rattle.export_names.specs.Lists.{Lists}
use Rattle.export_names.specs.TriggerRefs.{trigger_refs}
use Rattle.export_container.specs.Triggers.{trigger_kind}
use Rattle.export_names.specs.Members.{member_ids}

-- the trigger that a written one stands for
abbrev pub trigger_of : Lists → WrittenTrigger → Trigger
trigger_of lists written = record {
  id = written.id;
  name = written.name;
  kind = trigger_kind written;
  conditions = conditions_of lists.names written;
  members = trigger_refs lists.triggers (member_ids written);
}
