use Rattle.std.proofs.Common.{take}
use Rattle.fired_tags.proofs.marks.marks_of.Given as goal
use Rattle.fired_tags.specs.Marks.{AreMarks}

abbrev pub invariant-loop-at : goal.invariant-loop-at
invariant-loop-at l = AreMarks l.marks.items (take l.at-index l.places)
