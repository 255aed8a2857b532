use Rattle.std.proofs.Common.{◌∙◌, sym, arith}
use Rattle.perm_model.specs.Texts.{fits}
use Rattle.perm_match.specs.Pieces.{joined}
use Rattle.perm_match.proofs.Steps.{at_star, greedy, fits_done}
use Rattle.perm_match.proofs.Ends.{any_here, any_at_end, any_later}
use Rattle.perm_match.proofs.fitting.fits_an_end.Goals as goal

pub ends-smaller-in-Star : goal.ends-smaller-in-Star
ends-smaller-in-Star c =
    let is =
    at_star (joined c.ends.left) (joined c.ends.here) (joined c.in-Star.rest)
    (joined c.in-Star.behind) (sym c.in-Star.ensures) in
    omega (arith, is.shorter, is.not_longer)

pub ends-preserved-in-Star : goal.ends-preserved-in-Star
ends-preserved-in-Star c =
    sym (greedy (joined c.ends.left) (joined c.ends.here) (joined c.in-Star.rest)
    (joined c.in-Star.behind) (sym c.in-Star.ensures)) ∙ c.ends.invariant

pub returns-in-Done-true : goal.returns-in-Done-true
returns-in-Done-true c =
    sym (any_here (fits (joined c.ends.left)) (joined c.ends.here)
    (fits_done (joined c.ends.left) (joined c.ends.here) _ (sym c.in-Done-true.ensures)
    ∙ c.in-Done-true.field-0-test))
    ∙ c.ends.invariant

pub ends-preserved : goal.ends-preserved
ends-preserved c =
    sym (any_later (fits (joined c.ends.left)) _ c.in-Some.field-0-0 _ c.in-Some.ensures
    (fits_done (joined c.ends.left) (joined c.ends.here) _ (sym c.in-Done-false.ensures)
    ∙ c.in-Done-false.field-0-test))
    ∙ c.ends.invariant

pub returns-in-None : goal.returns-in-None
returns-in-None c =
    sym (any_at_end (fits (joined c.ends.left)) (joined c.ends.here) c.in-None.ensures
    (fits_done (joined c.ends.left) (joined c.ends.here) _ (sym c.in-Done-false.ensures)
    ∙ c.in-Done-false.field-0-test))
    ∙ c.ends.invariant
