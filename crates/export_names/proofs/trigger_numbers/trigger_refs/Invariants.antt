use Rattle.std.proofs.Common.{◌≡◌, take}
use Rattle.export_names.specs.TriggerRefs.{trigger_refs}
use Rattle.export_names.proofs.trigger_numbers.trigger_refs.Given as goal

abbrev pub invariant-loop-id : goal.invariant-loop-id
invariant-loop-id l = l.made ≡ trigger_refs l.ids (take l.id-index l.texts)
