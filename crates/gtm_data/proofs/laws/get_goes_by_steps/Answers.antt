use Rattle.gtm_data.proofs.Walks.{walk-at}
use Rattle.gtm_data.proofs.laws.get_goes_by_steps.Goals as goal

pub returns : goal.returns
returns c parts tree value indexed = walk-at parts tree value indexed
