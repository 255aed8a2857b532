use Rattle.std.proofs.Common.{◌≡◌, length}
use Rattle.perm_match.specs.Pieces.{joined}
use Rattle.perm_match.specs.Fitting.{step}
use Rattle.perm_match.proofs.fitting.read_piece.Given as goal

abbrev pub invariant-loop-c : goal.invariant-loop-c
invariant-loop-c l = step (joined l.left) (joined l.here) ≡ step (joined l.pattern) (joined l.text)

abbrev pub decreases-loop-c : goal.decreases-loop-c
decreases-loop-c l = length (joined l.left)
