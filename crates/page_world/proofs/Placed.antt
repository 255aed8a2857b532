-- The value of a key where another value was put at a key.
use Rattle.std.proofs.Common.{◌≡◌, ℕ, zero, suc, List, [], ◌∷◌, Option, Some, None, Bool}
use Rattle.std.proofs.Common.{true, false, true≢false, option_map, if◌then◌else◌, refl, sym, ap}
use Rattle.std.proofs.Common.{◌∙◌}
use Rattle.std.specs.Str.{bytes_eq}
use Rattle.gtm_base.specs.Keys.{place_of, value_of}
use Rattle.data_layer.proofs.Steps.{equal_keys}
use Rattle.page_world.specs.Pairs.{placed}

module _ {A : Type 0} (key : List ℕ) (value : A) (other : List ℕ) where
  -- the value of the other key, where the key has this one
  abbrev Put : List (List ℕ × A) → Option A
  Put pairs = if bytes_eq key other then Some value else value_of other pairs

  -- the first pair has the key
  at_first : (test : Bool) (pair : List ℕ × A) (pairs : List (List ℕ × A)) → pair.0 ≡ key
      → bytes_eq key other ≡ test
      → value_of other ((pair.0, value) ∷ pairs)
      ≡ (if test then Some value else value_of other (pair ∷ pairs))
  at_first true pair pairs same is =
      ap (λ b. if b then Some value else value_of other pairs)
      (ap (λ k. bytes_eq k other) same ∙ is)
  at_first false pair pairs same is =
      let apart : bytes_eq pair.0 other ≡ false = ap (λ k. bytes_eq k other) same ∙ is in
      ap (λ b. if b then Some value else value_of other pairs) apart
      ∙ sym (ap (λ b. if b then Some pair.1 else value_of other pairs) apart)

  -- a later pair has it, or none
  behind_first : (first test : Bool) (pair : List ℕ × A) (found later : Option A)
      → (first ≡ true → test ≡ true → ⊥) → later ≡ (if test then Some value else found)
      → (if first then Some pair.1 else later)
      ≡ (if test then Some value else (if first then Some pair.1 else found))
  behind_first true true pair found later apart is = absurd (apart refl refl)
  behind_first true false pair found later apart is = refl
  behind_first false test pair found later apart is = is

  unlike : (pair : List ℕ × A) → bytes_eq pair.0 key ≡ false → bytes_eq pair.0 other ≡ true
      → bytes_eq key other ≡ true → ⊥
  unlike pair apart some same =
      true≢false
      (sym some ∙ ap (bytes_eq pair.0) (sym (equal_keys key other same)) ∙ apart)

  -- what holds of the pairs behind the first
  abbrev Holds : List (List ℕ × A) → Type 0
  Holds pairs =
      (place : Option ℕ) → place_of key pairs ≡ place
      → value_of other (placed place key value pairs) ≡ Put pairs

  put_later : (there place : Option ℕ) (pair : List ℕ × A) (pairs : List (List ℕ × A))
      → bytes_eq pair.0 key ≡ false → option_map suc there ≡ place → place_of key pairs ≡ there
      → Holds pairs → value_of other (placed place key value (pair ∷ pairs)) ≡ Put (pair ∷ pairs)
  put_later None None pair pairs is found there later =
      behind_first (bytes_eq pair.0 other) (bytes_eq key other) pair (value_of other pairs)
      (value_of other (placed None key value pairs)) (unlike pair is) (later None there)
  put_later None (Some at) pair pairs is found there later = absurd (cc)
  put_later (Some at) None pair pairs is found there later = absurd (cc)
  put_later (Some at) (Some zero) pair pairs is found there later = absurd (cc)
  put_later (Some at) (Some (suc place)) pair pairs is found there later =
      let same : at ≡ place = cc in
      behind_first (bytes_eq pair.0 other) (bytes_eq key other) pair (value_of other pairs)
      (value_of other (placed (Some place) key value pairs)) (unlike pair is)
      (later (Some place) (there ∙ ap Some same))

  put_at : (test : Bool) (place : Option ℕ) (pair : List ℕ × A) (pairs : List (List ℕ × A))
      → bytes_eq pair.0 key ≡ test
      → (if test then Some 0 else option_map suc (place_of key pairs)) ≡ place
      → Holds pairs → value_of other (placed place key value (pair ∷ pairs)) ≡ Put (pair ∷ pairs)
  put_at true None pair pairs is found later = absurd (cc)
  put_at true (Some zero) pair pairs is found later =
      at_first (bytes_eq key other) pair pairs (equal_keys pair.0 key is) refl
  put_at true (Some (suc at)) pair pairs is found later = absurd (cc)
  put_at false place pair pairs is found later =
      put_later (place_of key pairs) place pair pairs is found refl later

  pub value_of-placed : (pairs : List (List ℕ × A)) → Holds pairs
  value_of-placed [] None found = refl
  value_of-placed [] (Some at) found = absurd (cc)
  value_of-placed (pair ∷ pairs) place found =
      put_at (bytes_eq pair.0 key) place pair pairs refl found (value_of-placed pairs)
