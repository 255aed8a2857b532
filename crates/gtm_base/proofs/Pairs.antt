-- Pairs of a key and a value: one that is written, one that is added, one that is looked for.
use Rattle.std.proofs.Common.{◌≡◌, ℕ, zero, suc, ◌<◌, ◌+◌, List, [], ◌∷◌, ◌++◌, length, get_or}
use Rattle.std.proofs.Common.{slice_set, drop, Bool, true, false, not, ◌&&◌, ◌||◌, true≢false, refl}
use Rattle.std.proofs.Common.{sym, ap, ◌∙◌, arith, drop-cons}
use Rattle.std.specs.Prelude.{Some, option_map, insert}
use Rattle.std.specs.Str.{bytes_eq}
use Rattle.std.proofs.lemmas.Slice.Eq.{bytes_eq-Decides}
use Rattle.std.proofs.lemmas.Bool.Decides.{same_from_decides, Decides-like}
use Rattle.gtm_base.specs.Keys.{has_key, distinct_keys, with_value, value_at, place_of}

pub or_false : (a b : Bool) → (a || b) ≡ false → (a ≡ false) × (b ≡ false)
or_false true b none = absurd (true≢false none)
or_false false b none = (refl, none)

pub and_true : (a b : Bool) → (a && b) ≡ true → (a ≡ true) × (b ≡ true)
and_true true b both = (refl, both)
and_true false b both = absurd (true≢false (sym both))

pub bytes_eq-sym : (some other : List ℕ) → bytes_eq some other ≡ bytes_eq other some
bytes_eq-sym some other =
    same_from_decides _ _
    (Decides-like _ sym sym (bytes_eq-Decides some other))
    (bytes_eq-Decides other some)

module _ {A : Type 0} where
  -- a write of the pair at a place that leaves its key
  pub set_is : (pairs : List (List ℕ × A)) (at : ℕ) (pair : List ℕ × A) (value : A)
      → at < length pairs → pair ≡ get_or pairs at pair
      → slice_set pairs at (pair.0, value) ≡ with_value pairs at value
  set_is [] at pair value within is = absurd (omega arith)
  set_is (first ∷ pairs) zero pair value within is = ap (λ p. (p.0, value) ∷ pairs) is
  set_is (first ∷ pairs) (suc at) pair value within is =
      ap (λ rest. first ∷ rest) (set_is pairs at pair value (omega arith) is)

  pub value_is : (pairs : List (List ℕ × A)) (at : ℕ) (pair : List ℕ × A) → at < length pairs
      → pair ≡ get_or pairs at pair → pair.1 ≡ value_at pairs at pair.1
  value_is [] at pair within is = absurd (omega arith)
  value_is (first ∷ pairs) zero pair within is = ap (λ p. p.1) is
  value_is (first ∷ pairs) (suc at) pair within is = value_is pairs at pair (omega arith) is

  has_key-push : (key new : List ℕ) (value : A) (pairs : List (List ℕ × A))
      → bytes_eq new key ≡ false → has_key key (pairs ++ (new, value) ∷ []) ≡ has_key key pairs
  has_key-push key new value [] other = ap (λ b. b || false) other
  has_key-push key new value (pair ∷ pairs) other =
      ap (λ b. bytes_eq pair.0 key || b) (has_key-push key new value pairs other)

  pub distinct_keys-push : (new : List ℕ) (value : A) (pairs : List (List ℕ × A))
      → has_key new pairs ≡ false → distinct_keys pairs ≡ true
      → distinct_keys (pairs ++ (new, value) ∷ []) ≡ true
  distinct_keys-push new value [] absent distinct = refl
  distinct_keys-push new value (pair ∷ pairs) absent distinct =
      let apart = or_false (bytes_eq pair.0 new) (has_key new pairs) absent in
      let both = and_true (not (has_key pair.0 pairs)) (distinct_keys pairs) distinct in
      let kept = has_key-push pair.0 new value pairs (bytes_eq-sym new pair.0 ∙ apart.0) in
      ap (λ b. not b && distinct_keys (pairs ++ (new, value) ∷ [])) kept
      ∙ (λ i. both.0 i && distinct_keys-push new value pairs apart.1 both.1 i)

  has_key-insert : (key new : List ℕ) (value : A) (pairs : List (List ℕ × A)) (at : ℕ)
      → bytes_eq new key ≡ false
      → has_key key (insert pairs at (new, value)) ≡ has_key key pairs
  has_key-insert key new value [] zero other = ap (λ b. b || false) other
  has_key-insert key new value [] (suc at) other = ap (λ b. b || false) other
  has_key-insert key new value (pair ∷ pairs) zero other =
      ap (λ b. b || has_key key (pair ∷ pairs)) other
  has_key-insert key new value (pair ∷ pairs) (suc at) other =
      ap (λ b. bytes_eq pair.0 key || b) (has_key-insert key new value pairs at other)

  pub distinct_keys-insert : (new : List ℕ) (value : A) (pairs : List (List ℕ × A)) (at : ℕ)
      → has_key new pairs ≡ false → distinct_keys pairs ≡ true
      → distinct_keys (insert pairs at (new, value)) ≡ true
  distinct_keys-insert new value [] zero absent distinct = refl
  distinct_keys-insert new value [] (suc at) absent distinct = refl
  distinct_keys-insert new value (pair ∷ pairs) zero absent distinct =
      λ i. not (absent i) && distinct i
  distinct_keys-insert new value (pair ∷ pairs) (suc at) absent distinct =
      let apart = or_false (bytes_eq pair.0 new) (has_key new pairs) absent in
      let both = and_true (not (has_key pair.0 pairs)) (distinct_keys pairs) distinct in
      let other : bytes_eq new pair.0 ≡ false = bytes_eq-sym new pair.0 ∙ apart.0 in
      let kept = has_key-insert pair.0 new value pairs at other in
      ap (λ b. not b && distinct_keys (insert pairs at (new, value))) kept
      ∙ (λ i. both.0 i && distinct_keys-insert new value pairs at apart.1 both.1 i)

  -- after the first pairs without the key, its place among the rest counts on
  pub place_on : (key : List ℕ) (pairs : List (List ℕ × A)) (at : ℕ) (pair : List ℕ × A)
      → at < length pairs → pair ≡ get_or pairs at pair → bytes_eq pair.0 key ≡ true
      → option_map (λ p. p + at) (place_of key (drop at pairs)) ≡ Some at
  place_on key pairs at pair within is test =
      rw (drop-cons pairs at pair, ← is, test) (ap Some (omega arith))
