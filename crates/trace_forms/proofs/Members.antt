-- Members by their keys, and the value at a place.
use Rattle.std.proofs.Common.{◌≡◌, ℕ, suc, List, [], ◌∷◌, Bool, true, false, Option, Some, None}
use Rattle.std.proofs.Common.{refl, ap, ◌∙◌}
use Rattle.std.specs.Prelude.{option_map, if◌then◌else◌}
use Rattle.std.specs.Str.{bytes_eq}
use Rattle.std.proofs.lemmas.Slice.Eq.{bytes_eq-Decides}
use Rattle.gtm_base.specs.Keys.{place_of, with_value, value_at}
use Rattle.gtm_data.specs.Paths.{member}
use Rattle.gtm_data.specs.Tree.{Tree, tree_of, entries_of}
use Rattle.gtm_data.specs.declared.data.Data.{Data}

module _ (key : List ℕ) (value : Data) where
  -- the value at this place is that of the key, and with another value there the other keys keep
  -- theirs
  pub record IsPlace (pairs : List (List ℕ × Data)) (at : ℕ) : Type 0 where
    pub found : member key (entries_of pairs) ≡ Some (tree_of (value_at pairs at value))
    pub others : (other : List ℕ) → bytes_eq key other ≡ false
        → member other (entries_of (with_value pairs at value)) ≡ member other (entries_of pairs)

  later : (pair : List ℕ × Data) (pairs : List (List ℕ × Data)) (at : ℕ) (place : Option ℕ)
      → bytes_eq pair.0 key ≡ false → option_map suc place ≡ Some at
      → ((next : ℕ) → place ≡ Some next → IsPlace pairs next) → IsPlace (pair ∷ pairs) at
  later pair pairs at None test is rest = absurd (cc)
  later pair pairs at (Some next) test is rest =
      let there = rest next refl in
      let counts : suc next ≡ at = cc in
      rw (← counts) record {
        found = rw test there.found;
        others =
            λ other apart.
            ap (λ found. if bytes_eq pair.0 other then Some (tree_of pair.1) else found)
            (there.others other apart);
      }

  here : (pair : List ℕ × Data) (pairs : List (List ℕ × Data)) (at : ℕ) (test : Bool)
      → bytes_eq pair.0 key ≡ test
      → (if test then Some 0 else option_map suc (place_of key pairs)) ≡ Some at
      → ((next : ℕ) → place_of key pairs ≡ Some next → IsPlace pairs next)
      → IsPlace (pair ∷ pairs) at
  here pair pairs at true test is rest =
      let first : 0 ≡ at = cc in
      let same : pair.0 ≡ key = (bytes_eq-Decides pair.0 key).0 test in
      rw (← first) record {
        found = rw test;
        others =
            λ other apart. let differs : bytes_eq pair.0 other ≡ false =
            ap (λ k. bytes_eq k other) same ∙ apart in rw differs;
      }
  here pair pairs at false test is rest = later pair pairs at (place_of key pairs) test is rest

  pub is_place : (pairs : List (List ℕ × Data)) (at : ℕ) → place_of key pairs ≡ Some at
      → IsPlace pairs at
  is_place [] at is = absurd (cc)
  is_place (pair ∷ pairs) at is = here pair pairs at (bytes_eq pair.0 key) refl is (is_place pairs)

module _ (key : List ℕ) where
  absent_later : (pairs : List (List ℕ × Data)) (place : Option ℕ) → option_map suc place ≡ None
      → (place ≡ None → member key (entries_of pairs) ≡ None) → member key (entries_of pairs) ≡ None
  absent_later pairs None is rest = rest refl
  absent_later pairs (Some next) is rest = absurd (cc)

  absent_here : (t : Tree) (pairs : List (List ℕ × Data)) (test : Bool)
      → (if test then Some 0 else option_map suc (place_of key pairs)) ≡ None
      → (place_of key pairs ≡ None → member key (entries_of pairs) ≡ None)
      → (if test then Some t else member key (entries_of pairs)) ≡ None
  absent_here t pairs true is rest = absurd (cc)
  absent_here t pairs false is rest = absent_later pairs (place_of key pairs) is rest

  pub is_absent : (pairs : List (List ℕ × Data)) → place_of key pairs ≡ None
      → member key (entries_of pairs) ≡ None
  is_absent [] is = refl
  is_absent (pair ∷ pairs) is =
      absent_here (tree_of pair.1) pairs (bytes_eq pair.0 key) is (is_absent pairs)
