use Rattle.std.proofs.Common.{◌≡◌, drop}
use Rattle.export_checks.specs.FirstFault.{items_fault}
use Rattle.export_checks.specs.TableValues.{use_fault}
use Rattle.export_checks.proofs.tables.in_tags.Given as goal

abbrev pub invariant-loop-at : goal.invariant-loop-at
invariant-loop-at l =
    items_fault (λ tag. use_fault l.types l.tables tag.kind tag.params) l.at (drop l.at l.tag-items)
    ≡ items_fault (λ tag. use_fault l.types l.tables tag.kind tag.params) 0 l.tags
