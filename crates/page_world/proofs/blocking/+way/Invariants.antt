use Rattle.std.proofs.Common.{◌+◌, ◌*◌, length}
use Rattle.page_world.proofs.blocking.+way.Given as goal

abbrev pub decreases-is_in_the_way : goal.decreases-is_in_the_way
decreases-is_in_the_way l = 2 * length l.parts.now

abbrev pub decreases-stops : goal.decreases-stops
decreases-stops l = 2 * length l.rest.now + 1
