-- Two lists of places as one, where no trigger is in both.
use Rattle.std.proofs.Common.{◌≡◌, ◌<◌, ◌≤◌, ◌+◌, ℕ, List, [], ◌∷◌, ◌++◌, Bool, true, false}
use Rattle.std.proofs.Common.{refl, ap, sym, ◌∙◌, arith}
use Rattle.std.specs.Prelude.{◌||◌, nat_lt}
use Rattle.std.specs.List.{AllByRecursion}
use Rattle.std.proofs.lemmas.Bool.Decides.{nat_tests}
use Rattle.export_model.specs.declared.triggers.Trigger.{Trigger}
use Rattle.gtm_triggers.proofs.Places.{above, more, place_if}
use Rattle.gtm_triggers.specs.Holding.{places_from}
use Rattle.gtm_triggers.specs.Merged.{from_on, less_than, merged}

is_less : (x y : ℕ) → x < y → nat_lt x y ≡ true
is_less x y less = grind (arith, nat_tests)

is_no_less : (x y : ℕ) → y ≤ x → nat_lt x y ≡ false
is_no_less x y most = grind (arith, nat_tests)

-- the first of the first list stands before all of the second
first_first : (x : ℕ) (xs ys : List ℕ) → AllByRecursion (λ y. x + 1 ≤ y) ys
    → merged (x ∷ xs) ys ≡ x ∷ merged xs ys
first_first x xs [] all = refl
first_first x xs (y ∷ ys) all =
    let less : nat_lt x y ≡ true = is_less x y (omega (arith, all.0)) in
    rw less refl

none_less : (bound : ℕ) (xs : List ℕ) → AllByRecursion (λ x. bound + 1 ≤ x) xs
    → less_than bound xs ≡ []
none_less bound [] all = refl
none_less bound (x ∷ xs) all =
    let most : nat_lt x bound ≡ false = is_no_less x bound (omega (arith, all.0)) in
    rw most refl

all_from : (bound : ℕ) (xs : List ℕ) → AllByRecursion (λ x. bound + 1 ≤ x) xs
    → from_on bound xs ≡ xs
all_from bound [] all = refl
all_from bound (x ∷ xs) all =
    let most : nat_lt x bound ≡ false = is_no_less x bound (omega (arith, all.0)) in
    rw most refl

-- the first of the second list stands before all of the first
second_first : (y : ℕ) (xs ys : List ℕ) → AllByRecursion (λ x. y + 1 ≤ x) xs
    → merged xs (y ∷ ys) ≡ y ∷ merged xs ys
second_first y xs ys all =
    λ i. none_less y xs all i ++ y ∷ merged (all_from y xs all i) ys

module _ (some other : ℕ × Trigger → Bool)
    (apart : (e : ℕ × Trigger) → some e ≡ true → other e ≡ true → ⊥) where
  -- those of both tests, one after the other
  pub merged_places : (from : ℕ) (ts : List Trigger)
      → merged (places_from some from ts) (places_from other from ts)
      ≡ places_from (λ e. some e || other e) from ts
  merged_places from [] = refl
  merged_places from (t ∷ ts) =
      (λ i. merged (more some from t ts i) (more other from t ts i))
      ∙ by_tests (some (from, t)) (other (from, t)) (apart (from, t))
      (merged_places (from + 1) ts)
      ∙ sym (more (λ e. some e || other e) from t ts) where
        by_tests : (b c : Bool) → (b ≡ true → c ≡ true → ⊥)
            → merged (places_from some (from + 1) ts) (places_from other (from + 1) ts)
            ≡ places_from (λ e. some e || other e) (from + 1) ts
            → merged (place_if b from (places_from some (from + 1) ts))
            (place_if c from (places_from other (from + 1) ts))
            ≡ place_if (b || c) from (places_from (λ e. some e || other e) (from + 1) ts)
        by_tests true true both is = absurd (both refl refl)
        by_tests true false both is =
            first_first from (places_from some (from + 1) ts) (places_from other (from + 1) ts)
            (above other (from + 1) (from + 1) ts (omega arith))
            ∙ ap (λ ps. from ∷ ps) is
        by_tests false true both is =
            second_first from (places_from some (from + 1) ts) (places_from other (from + 1) ts)
            (above some (from + 1) (from + 1) ts (omega arith))
            ∙ ap (λ ps. from ∷ ps) is
        by_tests false false both is = is
