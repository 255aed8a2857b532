use Rattle.std.proofs.Common.{IsTrue}
use Rattle.trace_rows.proofs.reading.read.Given as goal

abbrev pub invariant-loop-turn : goal.invariant-loop-turn
invariant-loop-turn g l = IsTrue (g.F.Files.state l.files).is_open
