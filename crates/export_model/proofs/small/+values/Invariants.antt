use Rattle.std.proofs.Common.{◌≡◌, drop}
use Rattle.export_model.specs.Params.{params_of}
use Rattle.export_model.specs.Small.{are_small_values}
use Rattle.export_model.proofs.small.+values.Given as goal

abbrev pub invariant-are_small_values-loop-param : goal.invariant-are_small_values-loop-param
invariant-are_small_values-loop-param l =
    are_small_values (params_of (drop l.param-index l.param-items))
    ≡ are_small_values (params_of l.params)
