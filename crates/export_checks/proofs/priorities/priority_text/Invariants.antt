use Rattle.std.proofs.Common.{◌≡◌, drop}
use Rattle.export_checks.specs.FirstFault.{items_fault}
use Rattle.export_checks.specs.Priorities.{tag_priority_fault}
use Rattle.export_checks.proofs.priorities.priority_text.Given as goal

abbrev pub invariant-loop-at : goal.invariant-loop-at
invariant-loop-at l =
    items_fault tag_priority_fault l.at (drop l.at l.tag-items) ≡ items_fault tag_priority_fault 0 l.written.tags
