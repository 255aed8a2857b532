-- Places that are compared.
use Rattle.std.proofs.Common.{◌≡◌, ◌<◌, ◌⊎◌, inl, inr, ℕ, arith}
use Rattle.std.specs.Prelude.{min}
use Rattle.std.proofs.lemmas.Bool.{cases_order, cases_lt}

-- of two places neither of which is lower, both are one
pub neither_lower : (some other : ℕ) → (some < other → ⊥) → (other < some → ⊥) → some ≡ other
neither_lower some other not_some not_other =
    elim (cases_order some other) [
      | inl same ↦ same
      | inr apart ↦ elim apart
          [ inl lower ↦ absurd (not_some lower) | inr lower ↦ absurd (not_other lower) ]
    ]

-- the lower of two places is one of them
pub min_is_one : (some other : ℕ) → (min some other ≡ some) ⊎ (min some other ≡ other)
min_is_one some other =
    elim (cases_lt some other) [ inl lower ↦ inl (omega arith) | inr not_lower ↦ inr (omega arith) ]
