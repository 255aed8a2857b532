use Rattle.std.proofs.Common.{◌≡◌, ◌++◌, drop, map}
use Rattle.export_model.specs.Params.{params_of}
use Rattle.gtm_data.specs.Tree.{tree_of, entries_of, none}
use Rattle.variable_kinds.proofs.resolving.+resolved.Given as goal
use Rattle.variable_kinds.specs.Kinds.{value_by}
use Rattle.variable_kinds.specs.Resolved.{resolved_items, resolved_members}

abbrev pub invariant-resolved_items-loop-param : goal.invariant-resolved_items-loop-param
invariant-resolved_items-loop-param l =
    let m = value_by l.names in
    map tree_of l.items ++ resolved_items m (params_of (drop l.param-index l.param-items))
    ≡ resolved_items m (params_of l.params)

abbrev pub invariant-resolved_members-loop-param : goal.invariant-resolved_members-loop-param
invariant-resolved_members-loop-param l =
    let m = value_by l.names in
    resolved_members m l.choice (params_of (drop l.param-index l.param-items))
    (entries_of l.members.pairs)
    ≡ resolved_members m l.choice (params_of l.params) none
