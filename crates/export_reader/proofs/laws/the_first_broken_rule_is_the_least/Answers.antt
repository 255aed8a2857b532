use Rattle.export_reader.proofs.Least.{first_is_least, none_is_broken}
use Rattle.export_reader.proofs.laws.the_first_broken_rule_is_the_least.Goals as goal

pub returns-clause-some : goal.returns-clause-some
returns-clause-some c bytes path rule = first_is_least bytes path rule

pub returns-clause-none : goal.returns-clause-none
returns-clause-none c bytes = none_is_broken bytes
