use Rattle.std.proofs.Common.{◌+◌, ◌*◌, length}
use Rattle.page_world.proofs.returns.+tell.Given as goal

abbrev pub decreases-tell : goal.decreases-tell
decreases-tell l = 3 * length l.parts.now

abbrev pub decreases-tell_within : goal.decreases-tell_within
decreases-tell_within l = 3 * length l.rest.now + 2

abbrev pub decreases-tell_below : goal.decreases-tell_below
decreases-tell_below l = 3 * length l.rest.now + 1
