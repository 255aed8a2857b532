use Rattle.reference_cycles.proofs.ShortChains.{is_short}
use Rattle.reference_cycles.proofs.laws.chains_are_shorter_than_the_graph.Goals as goal

pub returns : goal.returns
returns c graph steps from to none chain within = is_short graph none steps from to chain within
