use Rattle.std.proofs.Common.{◌≡◌, take}
use Rattle.fired_tags.proofs.firing.fired.Given as goal
use Rattle.fired_tags.specs.Fired.{fired}

abbrev pub invariant-loop-at : goal.invariant-loop-at
invariant-loop-at l = l.places ≡ fired l.holding l.event (take l.at l.tag-items)
