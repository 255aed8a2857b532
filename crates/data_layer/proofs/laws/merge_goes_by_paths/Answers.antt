use Rattle.data_layer.proofs.Afters.{merge_After}
use Rattle.data_layer.proofs.laws.merge_goes_by_paths.Goals as goal

pub returns : goal.returns
returns c n m distinct = merge_After n m distinct
