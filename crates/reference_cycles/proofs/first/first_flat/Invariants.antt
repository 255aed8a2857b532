use Rattle.std.proofs.Common.{◌<◌, ℕ}
use Rattle.reference_cycles.specs.Levels.{RefersLower}
use Rattle.reference_cycles.proofs.first.first_flat.Given as goal

abbrev pub invariant-loop-place : goal.invariant-loop-place
invariant-loop-place l = (other : ℕ) → other < l.place → RefersLower l.graph l.levels other
