use Rattle.std.proofs.Common.{◌≡◌, drop}
use Rattle.export_checks.specs.FirstFault.{items_fault}
use Rattle.export_checks.specs.UnknownTriggers.{id_fault}
use Rattle.export_checks.proofs.triggers.in_list.Given as goal

abbrev pub invariant-loop-at : goal.invariant-loop-at
invariant-loop-at l =
    items_fault (id_fault l.ids) l.at (drop l.at l.id-items) ≡ items_fault (id_fault l.ids) 0 l.list
