use Rattle.std.proofs.Common.{◌≡◌, drop}
use Rattle.std.specs.Prelude.{not}
use Rattle.std.specs.List.{position_from}
use Rattle.perm_model.specs.Allowed.{is_allowed, first_denied}
use Rattle.perm_match.proofs.allowing.first_denied.Given as goal

abbrev pub invariant-loop-at : goal.invariant-loop-at
invariant-loop-at l =
    position_from (λ wanted. not (is_allowed l.policy wanted)) l.at (drop l.at l.needs)
    ≡ first_denied l.policy l.needs
