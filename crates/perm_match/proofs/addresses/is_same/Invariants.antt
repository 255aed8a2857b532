use Rattle.std.proofs.Common.{◌≡◌, length}
use Rattle.std.specs.Str.{bytes_eq}
use Rattle.perm_match.specs.Pieces.{joined}
use Rattle.perm_match.proofs.addresses.is_same.Given as goal

abbrev pub invariant-loop-c : goal.invariant-loop-c
invariant-loop-c l =
    bytes_eq (joined l.left) (joined l.right) ≡ bytes_eq (joined l.some) (joined l.other)

abbrev pub decreases-loop-c : goal.decreases-loop-c
decreases-loop-c l = length (joined l.left)
