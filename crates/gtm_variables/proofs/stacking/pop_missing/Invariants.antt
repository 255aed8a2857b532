use Rattle.std.proofs.Common.{◌≡◌, ℕ, true, vec_len}
use Rattle.std.specs.Prelude.{Contains}
use Rattle.gtm_variables.proofs.stacking.pop_missing.Given as goal
use Rattle.gtm_variables.specs.Kept.{is_missing}

abbrev pub invariant-loop-place : goal.invariant-loop-place
invariant-loop-place l = record {
  fewer : (p : ℕ) → Contains l.waiting.items p → Contains l.fn.waiting.items p;
  left : (p : ℕ) → Contains l.fn.waiting.items p → is_missing l.values p ≡ true
      → Contains l.waiting.items p;
}

abbrev pub decreases-loop-place : goal.decreases-loop-place
decreases-loop-place l = vec_len l.waiting
