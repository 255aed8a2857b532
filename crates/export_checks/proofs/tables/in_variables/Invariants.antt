use Rattle.std.proofs.Common.{◌≡◌, drop}
use Rattle.export_checks.specs.FirstFault.{items_fault}
use Rattle.export_checks.specs.TableValues.{use_fault}
use Rattle.export_checks.proofs.tables.in_variables.Given as goal

abbrev pub invariant-loop-at : goal.invariant-loop-at
invariant-loop-at l =
    items_fault (λ variable. use_fault l.types l.tables variable.kind variable.params) l.at (drop l.at l.variable-items)
    ≡ items_fault (λ variable. use_fault l.types l.tables variable.kind variable.params) 0 l.variables
