use Rattle.std.proofs.Common.{◌+◌, ◌*◌, length}
use Rattle.page_world.proofs.returns.+forget.Given as goal

abbrev pub decreases-forget : goal.decreases-forget
decreases-forget l = 3 * length l.parts.now

abbrev pub decreases-forget_within : goal.decreases-forget_within
decreases-forget_within l = 3 * length l.rest.now + 2

abbrev pub decreases-forget_below : goal.decreases-forget_below
decreases-forget_below l = 3 * length l.rest.now + 1
