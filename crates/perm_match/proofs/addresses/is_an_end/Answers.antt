use Rattle.std.proofs.Common.{◌∙◌, sym}
use Rattle.std.specs.Str.{bytes_eq}
use Rattle.perm_match.specs.Pieces.{joined}
use Rattle.perm_match.proofs.Ends.{any_here}
use Rattle.perm_match.proofs.addresses.is_an_end.Goals as goal

pub returns-then-is_same : goal.returns-then-is_same
returns-then-is_same c =
    sym (any_here (bytes_eq (joined c.args.end)) (joined c.ends.here)
    (sym c.is_same.ensures ∙ c.if-is_same.true))
    ∙ c.ends.invariant
