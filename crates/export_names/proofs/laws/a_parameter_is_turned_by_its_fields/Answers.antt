use Rattle.std.proofs.Common.{ap}
use Rattle.export_fields.specs.declared.params.WrittenParam.{fold_out-WrittenParam}
use Rattle.export_model.specs.declared.params.Param.{Param}
use Rattle.export_names.specs.Params.{param_step}
use Rattle.export_names.proofs.laws.a_parameter_is_turned_by_its_fields.Goals as goal

pub returns-clause-key : goal.returns-clause-key
returns-clause-key c =
    λ names written. ap (λ p. p.key) (fold_out-WrittenParam Param (param_step names) written)

pub returns-clause-value : goal.returns-clause-value
returns-clause-value c =
    λ names written. ap (λ p. p.value) (fold_out-WrittenParam Param (param_step names) written)
