use Rattle.std.proofs.Common.{length}
use Rattle.page_world.proofs.setting.+nested.Given as goal

abbrev pub decreases-nested : goal.decreases-nested
decreases-nested l = length l.parts.now
