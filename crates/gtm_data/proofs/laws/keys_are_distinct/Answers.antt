use Rattle.gtm_data.proofs.Distincts.{tree_of-Distinct}
use Rattle.gtm_data.proofs.laws.keys_are_distinct.Goals as goal

pub returns : goal.returns
returns c value = tree_of-Distinct value
