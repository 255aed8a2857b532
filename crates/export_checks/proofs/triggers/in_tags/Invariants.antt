use Rattle.std.proofs.Common.{◌≡◌, drop}
use Rattle.export_checks.specs.FirstFault.{items_fault}
use Rattle.export_checks.specs.UnknownTriggers.{tag_trigger_fault}
use Rattle.export_checks.proofs.triggers.in_tags.Given as goal

abbrev pub invariant-loop-at : goal.invariant-loop-at
invariant-loop-at l =
    items_fault (tag_trigger_fault l.ids) l.at (drop l.at l.tag-items)
    ≡ items_fault (tag_trigger_fault l.ids) 0 l.tags
