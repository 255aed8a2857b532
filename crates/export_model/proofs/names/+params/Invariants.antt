use Rattle.std.proofs.Common.{◌≡◌, ◌++◌, drop}
use Rattle.std.specs.List.{filter_map}
use Rattle.export_model.specs.Graphs.{variable_at}
use Rattle.export_model.specs.Names.{names_in_all}
use Rattle.export_model.specs.Params.{params_of}
use Rattle.export_model.proofs.names.+params.Given as goal

abbrev pub
    invariant-push_named_by_params-loop-param : goal.invariant-push_named_by_params-loop-param
invariant-push_named_by_params-loop-param l =
    l.found ++ filter_map variable_at (names_in_all (params_of (drop l.param-index l.param-items)))
    ≡ l.fn.found ++ filter_map variable_at (names_in_all (params_of l.params))
