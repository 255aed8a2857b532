use Rattle.std.proofs.Common.{ℕ, ◌<◌, take, map}
use Rattle.text_places.specs.Indexed.{Indexes}
use Rattle.text_places.specs.Places.{IsRepeat}
use Rattle.text_places.proofs.repeats.first_repeat.Given as goal

abbrev pub invariant-loop-at : goal.invariant-loop-at
invariant-loop-at l = record {
  seen : Indexes l.seen (take l.at (map (λ t. t.now) l.texts));
  none_yet : (place : ℕ) → place < l.at → ¬ (IsRepeat (map (λ t. t.now) l.texts) place);
}
