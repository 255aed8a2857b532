use Rattle.std.proofs.Common.{◌∙◌}
use Rattle.export_model.specs.Params.{params_of, value_of}
use Rattle.gtm_data.specs.Tree.{tree_of, entries_of}
use Rattle.variable_kinds.proofs.Trees.{more_own, one_more_member}
use Rattle.variable_kinds.proofs.own_fields.own_members.Goals as goal
use Rattle.variable_kinds.specs.declared.members.Choice.TheVariants.{First}
use Rattle.variable_kinds.specs.Kinds.{value_by}
use Rattle.variable_kinds.specs.Resolved.{field_value, own_members}

pub loop-param-preserved : goal.loop-param-preserved
loop-param-preserved c =
    let m = value_by c.args.names.now in
    one_more_member First (λ p. field_value m p.key (value_of p.value))
    (λ ps. own_members m (params_of ps)) (more_own m)
    c.as_slice-param-items.result.now c.loop-param.param-index c.param-item.result
    (entries_of c.loop-param.members.pairs) (entries_of c.put.new.members.pairs)
    (tree_of c.in_ok-value.value) c.loop-param-test.true c.param-item.is c.in_ok-put.ensures
    c.in_ok-value.ensures
    ∙ c.loop-param.invariant
