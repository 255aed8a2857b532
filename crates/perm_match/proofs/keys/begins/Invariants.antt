use Rattle.std.proofs.Common.{◌≡◌, length, nat_eq}
use Rattle.std.specs.List.{starts_with}
use Rattle.perm_match.specs.Pieces.{joined}
use Rattle.perm_match.proofs.keys.begins.Given as goal

abbrev pub invariant-loop-c : goal.invariant-loop-c
invariant-loop-c l =
    starts_with nat_eq (joined l.here) (joined l.left)
    ≡ starts_with nat_eq (joined l.text) (joined l.front)

abbrev pub decreases-loop-c : goal.decreases-loop-c
decreases-loop-c l = length (joined l.left)
