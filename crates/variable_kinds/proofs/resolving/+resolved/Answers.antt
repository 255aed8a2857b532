use Rattle.std.proofs.Common.{◌∙◌}
use Rattle.export_model.specs.Params.{params_of, value_of}
use Rattle.gtm_data.specs.Tree.{tree_of, entries_of}
use Rattle.variable_kinds.proofs.Trees.{more_items, more_members, one_more_item, one_more_member}
use Rattle.variable_kinds.proofs.Trees.{resolved_as_list, resolved_as_map}
use Rattle.variable_kinds.proofs.resolving.+resolved.Goals as goal
use Rattle.variable_kinds.specs.Kinds.{value_by}
use Rattle.variable_kinds.specs.Resolved.{resolved, resolved_items, resolved_members}

pub resolved-returns-in_ok-resolved_items-in-List :
    goal.resolved-returns-in_ok-resolved_items-in-List
resolved-returns-in_ok-resolved_items-in-List t c =
    resolved_as_list (value_by c.args.names.now) c.args.value.now c.in-List.params _ c.in-List.is
    c.in_ok-resolved_items-in-List.ensures

pub resolved-returns-in_ok-resolved_members-in-Map :
    goal.resolved-returns-in_ok-resolved_members-in-Map
resolved-returns-in_ok-resolved_members-in-Map t c =
    resolved_as_map (value_by c.args.names.now) c.args.value.now c.in-Map.params
    c.in_ok-resolved_members-in-Map.field-0 c.in-Map.is
    c.in_ok-resolved_members-in-Map.ensures

pub resolved_items-loop-param-preserved : goal.resolved_items-loop-param-preserved
resolved_items-loop-param-preserved t c =
    let m = value_by c.args.names.now in
    one_more_item (λ p. resolved m (value_of p.value)) (λ ps. resolved_items m (params_of ps))
    (more_items m)
    c.as_slice-param-items.result.now c.loop-param.param-index c.param-item.result
    c.loop-param.items c.push.new.self c.in_ok-resolved.field-0 c.loop-param-test.true
    c.param-item.is c.in_ok-push.ensures.ok c.in_ok-resolved.ensures
    ∙ c.loop-param.invariant

pub resolved_members-loop-param-preserved : goal.resolved_members-loop-param-preserved
resolved_members-loop-param-preserved t c =
    let m = value_by c.args.names.now in
    one_more_member c.args.choice (λ p. resolved m (value_of p.value))
    (λ ps. resolved_members m c.args.choice (params_of ps)) (more_members m c.args.choice)
    c.as_slice-param-items.result.now c.loop-param.param-index c.param-item.result
    (entries_of c.loop-param.members.pairs) (entries_of c.put.new.members.pairs)
    (tree_of c.in_ok-value.value) c.loop-param-test.true c.param-item.is c.in_ok-put.ensures
    c.in_ok-value.ensures
    ∙ c.loop-param.invariant
