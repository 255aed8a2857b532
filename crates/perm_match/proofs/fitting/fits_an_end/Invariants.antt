use Rattle.std.proofs.Common.{◌≡◌, ◌+◌, length}
use Rattle.std.specs.List.{list_any}
use Rattle.perm_model.specs.Texts.{fits, ends_of}
use Rattle.perm_match.specs.Pieces.{joined}
use Rattle.perm_match.proofs.fitting.fits_an_end.Given as goal

abbrev pub invariant-ends : goal.invariant-ends
invariant-ends l =
    list_any (fits (joined l.left)) (ends_of (joined l.here))
    ≡ list_any (fits (joined l.pattern)) (ends_of (joined l.text))

abbrev pub decreases-ends : goal.decreases-ends
decreases-ends l = length (joined l.left) + length (joined l.here)
