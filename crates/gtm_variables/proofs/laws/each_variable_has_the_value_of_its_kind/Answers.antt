use Rattle.gtm_variables.proofs.Unfolding.{variable_unfolds, value_alone}
use Rattle.gtm_variables.proofs.laws.each_variable_has_the_value_of_its_kind.Goals as goal

pub returns-clause-value : goal.returns-clause-value
returns-clause-value c s at variable none is = variable_unfolds s none at variable is

pub returns-clause-alone : goal.returns-clause-alone
returns-clause-alone c s values none solves at = value_alone s none values solves at
