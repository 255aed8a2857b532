use Rattle.std.proofs.Common.{◌≡◌, take, map}
use Rattle.export_container.specs.TriggerEntries.{trigger_of}
use Rattle.export_container.proofs.triggers.triggers_of.Given as goal

abbrev pub invariant-loop-trigger : goal.invariant-loop-trigger
invariant-loop-trigger l = l.made ≡ map (trigger_of l.known) (take l.trigger-index l.written)
