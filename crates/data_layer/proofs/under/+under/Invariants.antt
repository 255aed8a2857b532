use Rattle.std.proofs.Common.{◌+◌, ◌*◌, length}
use Rattle.data_layer.proofs.under.+under.Given as goal

abbrev pub decreases-merge_below : goal.decreases-merge_below
decreases-merge_below l = 3 * length l.rest.now + 2

abbrev pub decreases-merge_under : goal.decreases-merge_under
decreases-merge_under l = 3 * length l.key.now + 1

abbrev pub decreases-merge_within : goal.decreases-merge_within
decreases-merge_within l = 3 * length l.key.now
