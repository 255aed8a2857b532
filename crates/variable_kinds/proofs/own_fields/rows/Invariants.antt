use Rattle.std.proofs.Common.{◌≡◌, ◌++◌, drop, map}
use Rattle.export_model.specs.Params.{params_of}
use Rattle.gtm_data.specs.Tree.{tree_of}
use Rattle.variable_kinds.proofs.own_fields.rows.Given as goal
use Rattle.variable_kinds.specs.Kinds.{value_by}
use Rattle.variable_kinds.specs.Resolved.{rows}

abbrev pub invariant-loop-param : goal.invariant-loop-param
invariant-loop-param l =
    let m = value_by l.names in
    map tree_of l.items ++ rows m (params_of (drop l.param-index l.param-items))
    ≡ rows m (params_of l.params)
