use Rattle.std.proofs.Common.{◌≡◌, ℕ, length, None}
use Rattle.std.specs.Prelude.{slice_index_or}
use Rattle.gtm_variables.proofs.filling.fresh.Given as goal

abbrev pub invariant-loop-at : goal.invariant-loop-at
invariant-loop-at l = record {
  length : length l.kept.items ≡ l._at;
  none : (place : ℕ) → slice_index_or l.kept.items place None ≡ None;
}
