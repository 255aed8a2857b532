use Rattle.std.proofs.Common.{◌≡◌, drop}
use Rattle.export_checks.specs.FirstFault.{items_fault}
use Rattle.export_checks.specs.UnknownTypes.{type_fault}
use Rattle.export_checks.specs.declared.templates.TemplateUse.TheVariants.{Variable}
use Rattle.export_checks.proofs.templates.in_variables.Given as goal

abbrev pub invariant-loop-at : goal.invariant-loop-at
invariant-loop-at l =
    items_fault (λ variable. type_fault l.types l.readings Variable variable.kind) l.at (drop l.at l.variable-items)
    ≡ items_fault (λ variable. type_fault l.types l.readings Variable variable.kind) 0 l.variables
