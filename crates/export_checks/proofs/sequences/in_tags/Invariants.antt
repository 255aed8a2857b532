use Rattle.std.proofs.Common.{◌≡◌, drop}
use Rattle.export_checks.specs.FirstFault.{items_fault}
use Rattle.export_checks.specs.UnknownTags.{tag_sequence_fault}
use Rattle.export_checks.proofs.sequences.in_tags.Given as goal

abbrev pub invariant-loop-at : goal.invariant-loop-at
invariant-loop-at l =
    items_fault (tag_sequence_fault l.names) l.at (drop l.at l.tag-items)
    ≡ items_fault (tag_sequence_fault l.names) 0 l.tags
