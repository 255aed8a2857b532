use Rattle.variable_kinds.proofs.Found.{first_found, none_found}
use Rattle.variable_kinds.proofs.laws.a_found_row_is_the_first.Goals as goal

pub returns-clause-some : goal.returns-clause-some
returns-clause-some c passes rows value = first_found passes rows value

pub returns-clause-none : goal.returns-clause-none
returns-clause-none c passes rows = none_found passes rows
