use Rattle.std.proofs.Common.{◌∙◌}
use Rattle.export_model.proofs.NamedRest.{one_more}
use Rattle.export_model.proofs.names.+params.Goals as goal

pub push_named_by_params-loop-param-preserved : goal.push_named_by_params-loop-param-preserved
push_named_by_params-loop-param-preserved t c =
    one_more c.as_slice-param-items.result.now c.loop-param.param-index c.param-item.result
    c.loop-param.found c.push_named_by_value.new.found
    c.loop-param-test.true c.param-item.is c.in_ok-push_named_by_value.ensures
    ∙ c.loop-param.invariant
