use Rattle.std.proofs.Common.{◌≡◌, drop}
use Rattle.export_checks.specs.FirstFault.{items_fault}
use Rattle.export_checks.specs.TableValues.{param_fault}
use Rattle.export_checks.proofs.tables.in_params.Given as goal

abbrev pub invariant-loop-at : goal.invariant-loop-at
invariant-loop-at l =
    items_fault (param_fault l.names) l.at (drop l.at l.param-items)
    ≡ items_fault (param_fault l.names) 0 l.params
