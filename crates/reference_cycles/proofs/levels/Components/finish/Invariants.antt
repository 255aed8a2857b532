use Rattle.std.proofs.Common.{vec_len}
use Rattle.reference_cycles.proofs.levels.Components.finish.Given as goal

abbrev pub decreases-loop-member : goal.decreases-loop-member
decreases-loop-member l = vec_len l.self.stack
