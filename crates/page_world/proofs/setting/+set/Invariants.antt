use Rattle.std.proofs.Common.{◌+◌, ◌*◌, length}
use Rattle.page_world.proofs.setting.+set.Given as goal

abbrev pub decreases-set_at : goal.decreases-set_at
decreases-set_at l = 3 * length l.parts.now

abbrev pub decreases-set_below : goal.decreases-set_below
decreases-set_below l = 3 * length l.rest.now + 2

abbrev pub decreases-set_member : goal.decreases-set_member
decreases-set_member l = 3 * length l.rest.now + 1
