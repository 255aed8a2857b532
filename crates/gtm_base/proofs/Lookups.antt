-- A key that is looked for.
use Rattle.std.proofs.Common.{◌≡◌, ℕ, zero, suc, List, [], ◌∷◌, length, Bool, true, false, refl, ap}
use Rattle.std.proofs.Common.{slice_get}
use Rattle.std.specs.Prelude.{Option, Some, None, option_map, if◌then◌else◌}
use Rattle.std.specs.Str.{bytes_eq}
use Rattle.std.proofs.lemmas.Slice.Eq.{bytes_eq-Decides}
use Rattle.gtm_base.specs.Keys.{place_of, value_of, with_value}

module _ {A : Type 0} (key : List ℕ) where
  -- the pair at this place has the key, and its value is the key's
  pub record IsFoundAt (pairs : List (List ℕ × A)) (at : ℕ) : Type 0 where
    pub value : A
    pub pair : slice_get pairs at ≡ Some (key, value)
    pub value_is : value_of key pairs ≡ Some value

  found_later : (pair : List ℕ × A) (pairs : List (List ℕ × A)) (at : ℕ)
      → bytes_eq pair.0 key ≡ false → (place : Option ℕ) → option_map suc place ≡ Some at
      → ((later : ℕ) → place ≡ Some later → IsFoundAt pairs later) → IsFoundAt (pair ∷ pairs) at
  found_later pair pairs at test None is later = absurd (cc)
  found_later pair pairs at test (Some place) is later =
      let found = later place refl in
      let next : suc place ≡ at = cc in
      record {
        value =
            found.value;
        pair = rw (← next) found.pair;
        value_is = rw test found.value_is;
      }

  found_here : (pair : List ℕ × A) (pairs : List (List ℕ × A)) (at : ℕ) (test : Bool)
      → bytes_eq pair.0 key ≡ test
      → (if test then Some 0 else option_map suc (place_of key pairs)) ≡ Some at
      → ((later : ℕ) → place_of key pairs ≡ Some later → IsFoundAt pairs later)
      → IsFoundAt (pair ∷ pairs) at
  found_here pair pairs at true test is later =
      let first : 0 ≡ at = cc in
      let same : pair.0 ≡ key = (bytes_eq-Decides pair.0 key).0 test in
      record {
        value =
            pair.1;
        pair = rw (← first) (ap (λ k. Some (k, pair.1)) same);
        value_is = rw test;
      }
  found_here pair pairs at false test is later =
      found_later pair pairs at test (place_of key pairs) is later

  pub found_at : (pairs : List (List ℕ × A)) (at : ℕ) → place_of key pairs ≡ Some at
      → IsFoundAt pairs at
  found_at [] at is = absurd (cc)
  found_at (pair ∷ pairs) at is =
      found_here pair pairs at (bytes_eq pair.0 key) refl is (found_at pairs)

  absent_later : (pairs : List (List ℕ × A)) (place : Option ℕ) → option_map suc place ≡ None
      → (place ≡ None → value_of key pairs ≡ None) → value_of key pairs ≡ None
  absent_later pairs None is later = later refl
  absent_later pairs (Some place) is later = absurd (cc)

  absent_here : (pair : List ℕ × A) (pairs : List (List ℕ × A)) (test : Bool)
      → (if test then Some 0 else option_map suc (place_of key pairs)) ≡ None
      → (place_of key pairs ≡ None → value_of key pairs ≡ None)
      → (if test then Some pair.1 else value_of key pairs) ≡ None
  absent_here pair pairs true is later = absurd (cc)
  absent_here pair pairs false is later = absent_later pairs (place_of key pairs) is later

  pub value_of-absent : (pairs : List (List ℕ × A)) → place_of key pairs ≡ None
      → value_of key pairs ≡ None
  value_of-absent [] is = refl
  value_of-absent (pair ∷ pairs) is =
      absent_here pair pairs (bytes_eq pair.0 key) is (value_of-absent pairs)

pub length-with_value : {A : Type 0} (pairs : List (List ℕ × A)) (at : ℕ) (value : A)
    → length (with_value pairs at value) ≡ length pairs
length-with_value [] at value = refl
length-with_value (pair ∷ pairs) zero value = refl
length-with_value (pair ∷ pairs) (suc at) value = ap suc (length-with_value pairs at value)
