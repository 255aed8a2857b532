use Rattle.std.proofs.Common.{◌≡◌, drop}
use Rattle.export_checks.specs.FirstFault.{items_fault}
use Rattle.export_checks.specs.UnknownTypes.{type_fault}
use Rattle.export_checks.specs.declared.templates.TemplateUse.TheVariants.{Tag}
use Rattle.export_checks.proofs.templates.in_tags.Given as goal

abbrev pub invariant-loop-at : goal.invariant-loop-at
invariant-loop-at l =
    items_fault (λ tag. type_fault l.types l.readings Tag tag.kind) l.at (drop l.at l.tag-items)
    ≡ items_fault (λ tag. type_fault l.types l.readings Tag tag.kind) 0 l.tags
