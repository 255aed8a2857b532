use Rattle.std.proofs.Common.{◌+◌, ◌*◌, length}
use Rattle.page_world.proofs.returns.Returns.+get.Given as goal

abbrev pub decreases-get : goal.decreases-get
decreases-get l = 2 * length l.parts.now

abbrev pub decreases-get_below : goal.decreases-get_below
decreases-get_below l = 2 * length l.rest.now + 1
