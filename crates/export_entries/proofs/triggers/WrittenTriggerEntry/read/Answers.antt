use Rattle.export_entries.specs.Triggers.{trigger_fault, written_trigger}
use Rattle.export_entries.proofs.Later.{ends_as}
use Rattle.export_entries.proofs.triggers.WrittenTriggerEntry.read.Goals as goal

pub returns-in_err-params : goal.returns-in_err-params
unfolding trigger_fault written_trigger
returns-in_err-params c =
    ends_as _ _ _ _ c.from_residual-in_err-params.ensures.1
    (rw (
      c.in_ok-object.ensures.0,
      c.in_ok-id.ensures.0,
      c.in_ok-kind.ensures.0,
      c.in_ok-name.ensures.0,
      c.in_ok-custom.ensures.0,
      c.in_ok-filter.ensures.0,
      c.in_ok-auto.ensures.0,
      c.in_ok-event_name.ensures.0,
    ) c.in_err-params.ensures)
