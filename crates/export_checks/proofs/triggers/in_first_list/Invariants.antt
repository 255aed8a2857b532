use Rattle.std.proofs.Common.{◌≡◌, drop}
use Rattle.export_checks.specs.UnknownTriggers.{first_list_fault}
use Rattle.export_checks.proofs.triggers.in_first_list.Given as goal

abbrev pub invariant-loop-at : goal.invariant-loop-at
invariant-loop-at l =
    first_list_fault l.ids l.at (drop l.at l.param-items) ≡ first_list_fault l.ids 0 l.params
