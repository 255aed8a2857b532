use Rattle.std.proofs.Common.{◌≡◌, length}
use Rattle.std.specs.List.{list_any}
use Rattle.std.specs.Str.{bytes_eq}
use Rattle.perm_model.specs.Texts.{ends_of}
use Rattle.perm_match.specs.Pieces.{joined}
use Rattle.perm_match.proofs.addresses.is_an_end.Given as goal

abbrev pub invariant-ends : goal.invariant-ends
invariant-ends l =
    list_any (bytes_eq (joined l.end)) (ends_of (joined l.here))
    ≡ list_any (bytes_eq (joined l.end)) (ends_of (joined l.text))

abbrev pub decreases-ends : goal.decreases-ends
decreases-ends l = length (joined l.here)
