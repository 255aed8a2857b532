use Rattle.std.proofs.Common.{◌≡◌, drop}
use Rattle.export_checks.specs.FirstFault.{items_fault}
use Rattle.export_checks.specs.UnknownTriggers.{group_fault}
use Rattle.export_checks.proofs.triggers.in_groups.Given as goal

abbrev pub invariant-loop-at : goal.invariant-loop-at
invariant-loop-at l =
    items_fault (group_fault l.ids) l.at (drop l.at l.trigger-items)
    ≡ items_fault (group_fault l.ids) 0 l.triggers
