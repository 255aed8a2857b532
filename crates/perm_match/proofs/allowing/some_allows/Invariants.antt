use Rattle.std.proofs.Common.{◌≡◌, drop}
use Rattle.perm_model.specs.Allowed.{some_allows}
use Rattle.perm_match.proofs.allowing.some_allows.Given as goal

abbrev pub invariant-loop-grant : goal.invariant-loop-grant
invariant-loop-grant l =
    some_allows (drop l.grant-index l.grants) l.need ≡ some_allows l.grants l.need
