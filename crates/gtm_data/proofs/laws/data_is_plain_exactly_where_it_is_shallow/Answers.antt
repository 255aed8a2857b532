use Rattle.gtm_data.proofs.Shallow.{too_deep-depth, plain-depth}
use Rattle.gtm_data.proofs.laws.data_is_plain_exactly_where_it_is_shallow.Goals as goal

pub returns-clause-shallow : goal.returns-clause-shallow
returns-clause-shallow c d = too_deep-depth d

pub returns-clause-plain : goal.returns-clause-plain
returns-clause-plain c d good = plain-depth d good
