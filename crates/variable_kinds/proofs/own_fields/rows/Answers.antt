use Rattle.std.proofs.Common.{◌∙◌}
use Rattle.export_model.specs.Params.{params_of, value_of}
use Rattle.variable_kinds.proofs.Trees.{more_rows, one_more_item}
use Rattle.variable_kinds.proofs.own_fields.rows.Goals as goal
use Rattle.variable_kinds.specs.Kinds.{value_by}
use Rattle.variable_kinds.specs.Resolved.{row, rows}

pub loop-param-preserved : goal.loop-param-preserved
loop-param-preserved c =
    let m = value_by c.args.names.now in
    one_more_item (λ p. row m (value_of p.value)) (λ ps. rows m (params_of ps)) (more_rows m)
    c.as_slice-param-items.result.now c.loop-param.param-index c.param-item.result
    c.loop-param.items c.push.new.self c.in_ok-row.field-0 c.loop-param-test.true
    c.param-item.is c.in_ok-push.ensures.ok c.in_ok-row.ensures
    ∙ c.loop-param.invariant
