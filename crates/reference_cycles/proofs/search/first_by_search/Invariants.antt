use Rattle.std.proofs.Common.{◌<◌, ℕ}
use Rattle.reference_cycles.specs.Graph.{Leads}
use Rattle.reference_cycles.proofs.search.first_by_search.Given as goal

abbrev pub invariant-loop-place : goal.invariant-loop-place
invariant-loop-place l = (other : ℕ) → other < l.place → Leads l.graph other other → ⊥
