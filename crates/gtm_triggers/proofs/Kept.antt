-- The places that are kept for an event, after one more.
use Rattle.std.proofs.Common.{◌≡◌, ℕ, zero, suc, List, [], ◌∷◌, ◌++◌, Bool, true, false, true≢false}
use Rattle.std.proofs.Common.{Option, Some, None, option_map, slice_get, refl, ap, sym, ◌∙◌}
use Rattle.std.specs.Prelude.{if◌then◌else◌, unwrap_or}
use Rattle.std.specs.Str.{bytes_eq}
use Rattle.data_layer.proofs.Steps.{equal_keys}
use Rattle.gtm_base.proofs.Lookups.{found_at}
use Rattle.gtm_base.specs.Keys.{place_of, value_at, value_of, with_value}
use Rattle.gtm_triggers.specs.Indexed.{kept_for, put_if}

abbrev Pairs : Type 0
Pairs = List (List ℕ × List ℕ)

-- an event has other places now, and every other event those that it had
pub kept_put : (pairs : Pairs) (event other : List ℕ) (at : ℕ) (old new : List ℕ) (b : Bool)
    → bytes_eq event other ≡ b → kept_for pairs event ≡ old → new ≡ old ++ at ∷ []
    → unwrap_or (if b then Some new else value_of other pairs) []
    ≡ put_if b at (kept_for pairs other)
kept_put pairs event other at old new true is was made =
    made
    ∙ ap (λ o. o ++ at ∷ []) (sym was ∙ ap (kept_for pairs) (equal_keys event other is))
kept_put pairs event other at old new false is was made = refl

module _ (event other new : List ℕ) where
  -- the event's pair is the first
  at_first : (b : Bool) (pair : List ℕ × List ℕ) (pairs : Pairs) → pair.0 ≡ event
      → bytes_eq event other ≡ b → value_of other ((pair.0, new) ∷ pairs)
      ≡ (if b then Some new else value_of other (pair ∷ pairs))
  at_first true pair pairs same is =
      ap (λ t. if t then Some new else value_of other pairs)
      (ap (λ k. bytes_eq k other) same ∙ is)
  at_first false pair pairs same is =
      let apart : bytes_eq pair.0 other ≡ false = ap (λ k. bytes_eq k other) same ∙ is in
      ap (λ t. if t then Some new else value_of other pairs) apart
      ∙ sym (ap (λ t. if t then Some pair.1 else value_of other pairs) apart)

  -- it is a later one
  behind : (first b : Bool) (pair : List ℕ × List ℕ) (later : Option (List ℕ))
      → (first ≡ true → b ≡ true → ⊥)
      → (if first then Some pair.1 else (if b then Some new else later))
      ≡ (if b then Some new else (if first then Some pair.1 else later))
  behind true true pair later apart = absurd (apart refl refl)
  behind true false pair later apart = refl
  behind false b pair later apart = refl

  pub value_set : (pairs : Pairs) (at : ℕ) → place_of event pairs ≡ Some at
      → value_of other (with_value pairs at new)
      ≡ (if bytes_eq event other then Some new else value_of other pairs)
  value_set [] at is = absurd (cc is)
  value_set (pair ∷ pairs) at is =
      by_test (bytes_eq pair.0 event) at refl is (λ k there. value_set pairs k there) where
        later_at : (place : Option ℕ) (at : ℕ) → bytes_eq pair.0 event ≡ false
            → place_of event pairs ≡ place → option_map suc place ≡ Some at
            → ((k : ℕ) → place_of event pairs ≡ Some k
            → value_of other (with_value pairs k new)
            ≡ (if bytes_eq event other then Some new else value_of other pairs))
            → value_of other (with_value (pair ∷ pairs) at new)
            ≡ (if bytes_eq event other then Some new else value_of other (pair ∷ pairs))
        later_at None at apart there is below = absurd (cc is)
        later_at (Some k) zero apart there is below = absurd (cc is)
        later_at (Some k) (suc at) apart there is below =
            let same : k ≡ at = cc in
            ap (λ o. if bytes_eq pair.0 other then Some pair.1 else o)
            (below at (there ∙ ap Some same))
            ∙ behind (bytes_eq pair.0 other) (bytes_eq event other) pair (value_of other pairs)
            (λ one two.
            true≢false
            (sym one ∙ ap (bytes_eq pair.0) (sym (equal_keys event other two)) ∙ apart))

        by_test : (b : Bool) (at : ℕ) → bytes_eq pair.0 event ≡ b
            → (if b then Some 0 else option_map suc (place_of event pairs)) ≡ Some at
            → ((k : ℕ) → place_of event pairs ≡ Some k
            → value_of other (with_value pairs k new)
            ≡ (if bytes_eq event other then Some new else value_of other pairs))
            → value_of other (with_value (pair ∷ pairs) at new)
            ≡ (if bytes_eq event other then Some new else value_of other (pair ∷ pairs))
        by_test true zero here is below =
            at_first (bytes_eq event other) pair pairs (equal_keys pair.0 event here) refl
        by_test true (suc at) here is below = absurd (cc is)
        by_test false at apart is below = later_at (place_of event pairs) at apart refl is below

  -- it is put behind all others
  pub value_behind : (pairs : Pairs) → place_of event pairs ≡ None
      → value_of other (pairs ++ (event, new) ∷ [])
      ≡ (if bytes_eq event other then Some new else value_of other pairs)
  value_behind [] is = refl
  value_behind (pair ∷ pairs) is =
      by_test (bytes_eq pair.0 event) refl is (λ there. value_behind pairs there) where
        later_none : (place : Option ℕ) → place_of event pairs ≡ place
            → option_map suc place ≡ None → place_of event pairs ≡ None
        later_none None there is = there
        later_none (Some k) there is = absurd (cc is)

        by_test : (b : Bool) → bytes_eq pair.0 event ≡ b
            → (if b then Some 0 else option_map suc (place_of event pairs)) ≡ None
            → (place_of event pairs ≡ None → value_of other (pairs ++ (event, new) ∷ [])
            ≡ (if bytes_eq event other then Some new else value_of other pairs))
            → value_of other (pair ∷ pairs ++ (event, new) ∷ [])
            ≡ (if bytes_eq event other then Some new else value_of other (pair ∷ pairs))
        by_test true here is below = absurd (cc is)
        by_test false apart is below =
            ap (λ o. if bytes_eq pair.0 other then Some pair.1 else o)
            (below (later_none (place_of event pairs) refl is))
            ∙ behind (bytes_eq pair.0 other) (bytes_eq event other) pair (value_of other pairs)
            (λ one two.
            true≢false
            (sym one ∙ ap (bytes_eq pair.0) (sym (equal_keys event other two)) ∙ apart))

value_at-pair : (pairs : Pairs) (at : ℕ) (key value other : List ℕ)
    → slice_get pairs at ≡ Some (key, value) → value_at pairs at other ≡ value
value_at-pair [] at key value other there = absurd (cc there)
value_at-pair (pair ∷ pairs) zero key value other there =
    let same : pair ≡ (key, value) = cc in
    ap (λ p. p.1) same
value_at-pair (pair ∷ pairs) (suc at) key value other there =
    value_at-pair pairs at key value other there

-- where a value stands at the event's place, it is the event's
pub value_at_place : (event : List ℕ) (pairs : Pairs) (at : ℕ) (was : List ℕ)
    → place_of event pairs ≡ Some at → was ≡ value_at pairs at was
    → value_of event pairs ≡ Some was
value_at_place event pairs at was place is =
    let found = found_at event pairs at place in
    found.value_is ∙ ap Some (sym (is ∙ value_at-pair pairs at event found.value was found.pair))
