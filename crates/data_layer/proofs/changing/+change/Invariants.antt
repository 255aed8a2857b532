use Rattle.std.proofs.Common.{◌+◌, ◌*◌, length}
use Rattle.data_layer.proofs.changing.+change.Given as goal

abbrev pub decreases-change_at : goal.decreases-change_at
decreases-change_at l = 3 * length l.parts.now

abbrev pub decreases-change_inside : goal.decreases-change_inside
decreases-change_inside l = 3 * length l.rest.now + 2

abbrev pub decreases-change_in_map : goal.decreases-change_in_map
decreases-change_in_map l = 3 * length l.rest.now + 1

abbrev pub decreases-change_in_list : goal.decreases-change_in_list
decreases-change_in_list l = 3 * length l.rest.now + 1
