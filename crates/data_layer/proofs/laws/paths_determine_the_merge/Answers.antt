use Rattle.data_layer.proofs.Determined.{After_determines}
use Rattle.data_layer.proofs.laws.paths_determine_the_merge.Goals as goal

pub returns : goal.returns
returns c n m r s distinct_r distinct_s one two =
    After_determines n m r s distinct_r distinct_s one two
