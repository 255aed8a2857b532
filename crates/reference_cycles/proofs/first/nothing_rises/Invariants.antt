use Rattle.std.proofs.Common.{◌<◌, ℕ}
use Rattle.reference_cycles.specs.Levels.{RefersNoHigher}
use Rattle.reference_cycles.proofs.first.nothing_rises.Given as goal

abbrev pub invariant-loop-place : goal.invariant-loop-place
invariant-loop-place l = (other : ℕ) → other < l.place → RefersNoHigher l.graph l.levels other
