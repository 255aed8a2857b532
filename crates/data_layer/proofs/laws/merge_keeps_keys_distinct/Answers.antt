use Rattle.data_layer.proofs.MergedKeys.{merge_distinct}
use Rattle.data_layer.proofs.laws.merge_keeps_keys_distinct.Goals as goal

pub returns : goal.returns
returns c n m distinct_n distinct_m = merge_distinct n m distinct_n distinct_m
