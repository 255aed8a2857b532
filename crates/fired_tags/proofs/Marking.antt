-- One more mark.
use Rattle.std.proofs.Common.{◌≡◌, ◌<◌, ◌+◌, ℕ, zero, suc, List, [], ◌∷◌, ◌++◌, length, take}
use Rattle.std.proofs.Common.{get_or, set, Bool, true, false, refl, ap, sym, ◌∙◌}
use Rattle.std.specs.Prelude.{◌||◌, nat_eq}
use Rattle.std.specs.List.{list_any}
use Rattle.std.proofs.lemmas.Bool.{eq-eqb, eqb-true}
use Rattle.std.proofs.lemmas.List.{get_or-set_same, get_or-set_other, take_more}
use Rattle.fired_tags.specs.Marks.{AreMarks}

-- a place with no mark behind the last changes no mark
pub no_more : (marks : List Bool) (other : ℕ)
    → get_or (marks ++ false ∷ []) other false ≡ get_or marks other false
no_more [] zero = refl
no_more [] (suc other) = refl
no_more (m ∷ marks) zero = refl
no_more (m ∷ marks) (suc other) = no_more marks other

pub set_mark : (marks : List Bool) (at other : ℕ) → at < length marks
    → get_or (set marks at true) other false ≡ (nat_eq other at || get_or marks other false)
set_mark marks at other within = by_test (nat_eq other at) refl where
  apart : nat_eq other at ≡ false → other ≡ at → ⊥
  apart is same = cc (sym is ∙ eq-eqb other at same)

  by_test : (b : Bool) → nat_eq other at ≡ b
      → get_or (set marks at true) other false ≡ (nat_eq other at || get_or marks other false)
  by_test true is =
      ap (λ k. get_or (set marks at true) k false) (eqb-true other at is)
      ∙ get_or-set_same marks at true false within
      ∙ sym (ap (λ b. b || get_or marks other false) is)
  by_test false is =
      get_or-set_other marks at other true false (apart is)
      ∙ sym (ap (λ b. b || get_or marks other false) is)

any_behind : (test : ℕ → Bool) (places : List ℕ) (place : ℕ)
    → list_any test (places ++ place ∷ []) ≡ (test place || list_any test places)
any_behind test [] place = refl
any_behind test (p ∷ places) place =
    ap (λ b. test p || b) (any_behind test places place)
    ∙ swapped (test p) (test place) (list_any test places) where
      swapped : (a b c : Bool) → (a || (b || c)) ≡ (b || (a || c))
      swapped true true c = refl
      swapped true false c = refl
      swapped false b c = refl

-- one more of the first places has a mark
pub next_mark : (places : List ℕ) (at : ℕ) (before after : List Bool) → at < length places
    → AreMarks before (take at places)
    → ((other : ℕ) → get_or after other false
    ≡ (nat_eq other (get_or places at 0) || get_or before other false))
    → AreMarks after (take (at + 1) places)
next_mark places at before after within are marked other =
    marked other
    ∙ ap (λ b. nat_eq other (get_or places at 0) || b) (are other)
    ∙ sym (any_behind (nat_eq other) (take at places) (get_or places at 0))
    ∙ ap (list_any (nat_eq other)) (sym (take_more places at 0 within))
