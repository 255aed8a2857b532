use Rattle.std.proofs.Common.{◌≡◌, ◌++◌, drop}
use Rattle.gtm_triggers.proofs.merging.push_all.Given as goal

abbrev pub invariant-loop-x : goal.invariant-loop-x
invariant-loop-x l = l.made ++ drop l.x-index l.xs ≡ l.fn.made ++ l.xs
