use Rattle.std.proofs.Common.{◌≡◌, ◌++◌, drop}
use Rattle.gtm_triggers.proofs.merging.merged.Given as goal
use Rattle.gtm_triggers.specs.Merged.{merged}

abbrev pub invariant-loop-y : goal.invariant-loop-y
invariant-loop-y l = l.made ++ merged l.rest (drop l.y-index l.ys) ≡ merged l.xs l.ys
