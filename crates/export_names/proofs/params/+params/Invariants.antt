use Rattle.std.proofs.Common.{◌≡◌, take}
use Rattle.export_names.specs.Params.{params_of}
use Rattle.export_names.proofs.params.+params.Given as goal

abbrev pub invariant-params_of-loop-param : goal.invariant-params_of-loop-param
invariant-params_of-loop-param l = l.made ≡ params_of l.names (take l.param-index l.param-items)
