use Rattle.std.proofs.Common.{◌≡◌, ◌++◌, length}
use Rattle.gtm_triggers.proofs.merging.push_less.Given as goal
use Rattle.gtm_triggers.specs.Merged.{from_on, less_than}

abbrev pub invariant-loop-rest : goal.invariant-loop-rest
invariant-loop-rest l = record {
  pushed : l.made ++ less_than l.bound l.rest ≡ l.fn.made ++ less_than l.bound l.xs;
  rest : from_on l.bound l.rest ≡ from_on l.bound l.xs;
}

abbrev pub decreases-loop-rest : goal.decreases-loop-rest
decreases-loop-rest l = length l.rest
