use Rattle.gtm_variables.proofs.Pushing.{IsGrown}
use Rattle.gtm_variables.proofs.stacking.push_missing_of.Given as goal
use Rattle.gtm_variables.specs.Kept.{is_missing}

abbrev pub invariant-loop-place : goal.invariant-loop-place
invariant-loop-place l =
    IsGrown (is_missing l.values) l.places l.place-index l.fn.waiting.items l.waiting.items l.next
