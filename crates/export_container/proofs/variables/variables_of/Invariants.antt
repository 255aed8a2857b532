use Rattle.std.proofs.Common.{◌≡◌, take, map}
use Rattle.export_container.specs.Variables.{variable_of}
use Rattle.export_container.proofs.variables.variables_of.Given as goal

abbrev pub invariant-loop-variable : goal.invariant-loop-variable
invariant-loop-variable l = l.made ≡ map (variable_of l.known) (take l.variable-index l.written)
