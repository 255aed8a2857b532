-- Where no two pairs have the same key, a key leads to its pair alone.
use Rattle.std.proofs.Common.{◌≡◌, ◌↔◌, ℕ, zero, suc, List, [], ◌∷◌, Bool, true, false, not, ◌&&◌}
use Rattle.std.proofs.Common.{◌||◌, IsTrue, true≢false, refl, sym, ap, ◌∙◌, slice_get, arith}
use Rattle.std.specs.Prelude.{Option, Some, None, option_map, if◌then◌else◌}
use Rattle.std.specs.Str.{bytes_eq}
use Rattle.std.proofs.lemmas.Slice.Eq.{bytes_eq-Decides}
use Rattle.gtm_base.specs.Keys.{has_key, distinct_keys, value_of, place_of}
use Rattle.gtm_base.proofs.Lookups.{found_at, value_of-absent}
use Rattle.gtm_base.proofs.Pairs.{and_true}

or_true : (some : Bool) → (some || true) ≡ true
or_true true = refl
or_true false = refl

pub not_true : (some : Bool) → not some ≡ true → some ≡ false
not_true true is = absurd (true≢false (sym is))
not_true false is = refl

some_same : {A : Type 0} {x y : A} → Some x ≡ Some y → x ≡ y
some_same is = cc

module _ {A : Type 0} (key : List ℕ) where
  -- some pair has the key that stands at a place
  has_key-at : (pairs : List (List ℕ × A)) (at : ℕ) (value : A)
      → slice_get pairs at ≡ Some (key, value) → has_key key pairs ≡ true
  has_key-at [] at value is = absurd (cc)
  has_key-at (pair ∷ pairs) zero value is =
      let same : pair ≡ (key, value) = some_same is in
      ap (λ test. test || has_key key pairs) ((bytes_eq-Decides pair.0 key).1 (ap (λ p. p.0) same))
  has_key-at (pair ∷ pairs) (suc at) value is =
      ap (λ has. bytes_eq pair.0 key || has) (has_key-at pairs at value is)
      ∙ or_true (bytes_eq pair.0 key)

  -- a first pair whose key the others do not have is passed over by a key that they have
  passed_over : (test : Bool) (first : List ℕ) (pairs : List (List ℕ × A))
      → bytes_eq first key ≡ test → has_key first pairs ≡ false → has_key key pairs ≡ true
      → bytes_eq first key ≡ false
  passed_over true first pairs is lacks has =
      let same : first ≡ key = (bytes_eq-Decides first key).0 is in
      absurd (true≢false (sym has ∙ ap (λ k. has_key k pairs) (sym same) ∙ lacks))
  passed_over false first pairs is lacks has = is

  -- a pair's key is found at that pair's place
  place_of-at : (pairs : List (List ℕ × A)) (at : ℕ) (value : A) → distinct_keys pairs ≡ true
      → slice_get pairs at ≡ Some (key, value) → place_of key pairs ≡ Some at
  place_of-at [] at value distinct is = absurd (cc)
  place_of-at (pair ∷ pairs) zero value distinct is =
      let same : pair ≡ (key, value) = some_same is in
      let test : bytes_eq pair.0 key ≡ true =
      (bytes_eq-Decides pair.0 key).1 (ap (λ p. p.0) same) in
      rw test refl
  place_of-at (pair ∷ pairs) (suc at) value distinct is =
      let both = and_true (not (has_key pair.0 pairs)) (distinct_keys pairs) distinct in
      let test : bytes_eq pair.0 key ≡ false =
      passed_over (bytes_eq pair.0 key) pair.0 pairs refl
      (not_true (has_key pair.0 pairs) both.0) (has_key-at pairs at value is) in
      rw test (ap (option_map suc) (place_of-at pairs at value both.1 is))

  -- a pair's key has that pair's value
  value_of-at : (pairs : List (List ℕ × A)) (at : ℕ) (value : A) → distinct_keys pairs ≡ true
      → slice_get pairs at ≡ Some (key, value) → value_of key pairs ≡ Some value
  value_of-at pairs at value distinct is =
      let found = found_at key pairs at (place_of-at pairs at value distinct is) in
      let pair : (key, found.value) ≡ (key, value) = some_same (sym found.pair ∙ is) in
      found.value_is ∙ ap (λ p. Some p.1) pair

  -- a key's value stands beside it in some pair
  paired_at : (pairs : List (List ℕ × A)) (value : A) (place : Option ℕ)
      → place_of key pairs ≡ place → value_of key pairs ≡ Some value
      → (at : ℕ) × (slice_get pairs at ≡ Some (key, value))
  paired_at pairs value None place is =
      let absent : value_of key pairs ≡ None = value_of-absent key pairs place in
      absurd (cc)
  paired_at pairs value (Some at) place is =
      let found = found_at key pairs at place in
      let same : found.value ≡ value = some_same (sym found.value_is ∙ is) in
      (at, found.pair ∙ ap (λ v. Some (key, v)) same)

  -- one more pair in front, with the test of its key
  absent_value : (test : Bool) (value : A) (pairs : List (List ℕ × A))
      → ((has_key key pairs ≡ false) ↔ (value_of key pairs ≡ None))
      → ((test || has_key key pairs) ≡ false)
      ↔ ((if test then Some value else value_of key pairs) ≡ None)
  absent_value true value pairs later = ((λ lacks. absurd (true≢false lacks)), (λ is. absurd (cc)))
  absent_value false value pairs later = later

  -- the key's value is exactly the one that it is paired with
  pub value_is_paired : (pairs : List (List ℕ × A)) (value : A) → IsTrue (distinct_keys pairs)
      → (value_of key pairs ≡ Some value) ↔ ((at : ℕ) × (slice_get pairs at ≡ Some (key, value)))
  value_is_paired pairs value distinct = (
    paired_at pairs value (place_of key pairs) refl,
    (λ paired. value_of-at pairs paired.0 value distinct paired.1),
  )

  -- the key's place is exactly the place of its pair
  pub place_is_paired : (pairs : List (List ℕ × A)) (at : ℕ) → IsTrue (distinct_keys pairs)
      → (place_of key pairs ≡ Some at) ↔ ((value : A) × (slice_get pairs at ≡ Some (key, value)))
  place_is_paired pairs at distinct = (
    (λ is. let found = found_at key pairs at is in (found.value, found.pair)),
    (λ paired. place_of-at pairs at paired.0 distinct paired.1),
  )

  -- exactly a key that no pair has has no value
  pub absent_has_no_value : (pairs : List (List ℕ × A)) → (has_key key pairs ≡ false)
      ↔ (value_of key pairs ≡ None)
  absent_has_no_value [] = ((λ _. refl), (λ _. refl))
  absent_has_no_value (pair ∷ pairs) =
      absent_value (bytes_eq pair.0 key) pair.1 pairs (absent_has_no_value pairs)

-- a key that some pair has stands at some place
key_paired_at : {A : Type 0} (test : Bool) (key : List ℕ) (pair : List ℕ × A)
    (pairs : List (List ℕ × A)) → bytes_eq pair.0 key ≡ test
    → (has_key key pairs ≡ true → (at : ℕ) × (value : A) × (slice_get pairs at ≡ Some (key, value)))
    → (test || has_key key pairs) ≡ true
    → (at : ℕ) × (value : A) × (slice_get (pair ∷ pairs) at ≡ Some (key, value))
key_paired_at true key pair pairs is later has =
    (0, pair.1, ap (λ k. Some (k, pair.1)) ((bytes_eq-Decides pair.0 key).0 is))
key_paired_at false key pair pairs is later has = let found = later has in
    (suc found.0, found.1, found.2)

pub key_paired : {A : Type 0} (key : List ℕ) (pairs : List (List ℕ × A)) → has_key key pairs ≡ true
    → (at : ℕ) × (value : A) × (slice_get pairs at ≡ Some (key, value))
key_paired key [] has = absurd (true≢false (sym has))
key_paired key (pair ∷ pairs) has =
    key_paired_at (bytes_eq pair.0 key) key pair pairs refl (key_paired key pairs) has

-- no two places have the same key
abbrev pub Alone : {A : Type 0} → List (List ℕ × A) → Type 0
Alone {A} pairs =
    (at other : ℕ) (key : List ℕ) (value another : A) → slice_get pairs at ≡ Some (key, value)
    → slice_get pairs other ≡ Some (key, another) → at ≡ other

first_alone : {A : Type 0} (test : Bool) (pair : List ℕ × A) (pairs : List (List ℕ × A))
    → Alone (pair ∷ pairs) → has_key pair.0 pairs ≡ test → test ≡ false
first_alone true pair pairs alone has =
    let found = key_paired pair.0 pairs has in
    let same : 0 ≡ suc found.0 = alone 0 (suc found.0) pair.0 pair.1 found.1 refl found.2 in
    absurd (omega arith)
first_alone false pair pairs alone has = refl

later_alone : {A : Type 0} (pair : List ℕ × A) (pairs : List (List ℕ × A)) → Alone (pair ∷ pairs)
    → Alone pairs
later_alone pair pairs alone at other key value another here there =
    let same : suc at ≡ suc other = alone (suc at) (suc other) key value another here there in
    omega arith

distinct_if_alone : {A : Type 0} (pairs : List (List ℕ × A)) → Alone pairs
    → distinct_keys pairs ≡ true
distinct_if_alone [] alone = refl
distinct_if_alone (pair ∷ pairs) alone =
    λ i. not (first_alone (has_key pair.0 pairs) pair pairs alone refl i)
    && distinct_if_alone pairs (later_alone pair pairs alone) i

alone_if_distinct : {A : Type 0} (pairs : List (List ℕ × A)) → distinct_keys pairs ≡ true
    → Alone pairs
alone_if_distinct pairs distinct at other key value another here there =
    some_same (sym (place_of-at key pairs at value distinct here)
    ∙ place_of-at key pairs other another distinct there)

pub distinct_is_alone : {A : Type 0} (pairs : List (List ℕ × A)) → IsTrue (distinct_keys pairs)
    ↔ Alone pairs
distinct_is_alone pairs = (alone_if_distinct pairs, distinct_if_alone pairs)

-- exactly a key that some pair has stands at some place
pub has_key_is_paired : {A : Type 0} (key : List ℕ) (pairs : List (List ℕ × A))
    → IsTrue (has_key key pairs)
    ↔ ((at : ℕ) × (value : A) × (slice_get pairs at ≡ Some (key, value)))
has_key_is_paired key pairs =
    (key_paired key pairs, (λ found. has_key-at key pairs found.0 found.1 found.2))
