use Rattle.std.proofs.Common.{take}
use Rattle.gtm_triggers.proofs.index.Index.new.Given as goal
use Rattle.gtm_triggers.specs.Indexed.{Indexes}

abbrev pub invariant-loop-at : goal.invariant-loop-at
invariant-loop-at l = Indexes l.index (take l.at l.trigger-items)
