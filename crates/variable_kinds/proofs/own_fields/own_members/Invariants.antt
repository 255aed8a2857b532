use Rattle.std.proofs.Common.{◌≡◌, drop}
use Rattle.export_model.specs.Params.{params_of}
use Rattle.gtm_data.specs.Tree.{entries_of, none}
use Rattle.variable_kinds.proofs.own_fields.own_members.Given as goal
use Rattle.variable_kinds.specs.Kinds.{value_by}
use Rattle.variable_kinds.specs.Resolved.{own_members}

abbrev pub invariant-loop-param : goal.invariant-loop-param
invariant-loop-param l =
    let m = value_by l.names in
    own_members m (params_of (drop l.param-index l.param-items)) (entries_of l.members.pairs)
    ≡ own_members m (params_of l.params) none
