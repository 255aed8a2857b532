use Rattle.sjs_complete.proofs.Complete.{complete}
use Rattle.sjs_complete.proofs.laws.what_is_read_is_taken.Goals as goal

pub returns : goal.returns
returns c = complete
