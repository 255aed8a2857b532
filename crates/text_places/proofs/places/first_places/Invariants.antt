use Rattle.std.proofs.Common.{take, map}
use Rattle.text_places.specs.Indexed.{Indexes}
use Rattle.text_places.proofs.places.first_places.Given as goal

abbrev pub invariant-loop-at : goal.invariant-loop-at
invariant-loop-at l = Indexes l.first (take l.at (map (λ t. t.now) l.texts))
