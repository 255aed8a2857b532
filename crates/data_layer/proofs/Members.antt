-- Members of a Map beside the trees that they stand for, under a change at one key.
use Rattle.std.proofs.Common.{◌≡◌, ℕ, zero, suc, List, [], ◌∷◌, ◌++◌, Bool, true, false, Option}
use Rattle.std.proofs.Common.{Some, None, option_map, if◌then◌else◌, refl, ap, ◌∙◌}
use Rattle.std.specs.Str.{bytes_eq}
use Rattle.gtm_base.specs.Keys.{place_of, with_value, value_at}
use Rattle.gtm_data.specs.declared.data.Data.{Data}
use Rattle.gtm_data.specs.Tree.{Tree, none, entry, tree_of, entries_of}
use Rattle.data_layer.specs.Merge.{put}

abbrev pub Member : Type 0
Member = List ℕ × Data

module _ (key : List ℕ) (change : Tree → Tree) (t : Tree) where
  -- the value at a place was changed
  abbrev IsSet : List Member → ℕ → Data → Data → Type 0
  IsSet members at was new =
      was ≡ value_at members at was → tree_of new ≡ change (tree_of was)
      → entries_of (with_value members at new) ≡ put key change t (entries_of members)

  set_later : (m : Member) (members : List Member) (at : ℕ) (was new : Data)
      → bytes_eq m.0 key ≡ false → (place : Option ℕ) → option_map suc place ≡ Some at
      → ((later : ℕ) → place ≡ Some later → IsSet members later was new)
      → IsSet (m ∷ members) at was new
  set_later m members at was new other None is later same made = absurd (cc)
  set_later m members zero was new other (Some place) is later same made = absurd (cc)
  set_later m members (suc at) was new other (Some place) is later same made =
      let next : place ≡ at = cc in
      ap (entry m.0 (tree_of m.1)) (later at (ap Some next) same made) ∙ rw other refl

  set_here : (m : Member) (members : List Member) (at : ℕ) (was new : Data) (test : Bool)
      → bytes_eq m.0 key ≡ test
      → (if test then Some 0 else option_map suc (place_of key members)) ≡ Some at
      → ((later : ℕ) → place_of key members ≡ Some later → IsSet members later was new)
      → IsSet (m ∷ members) at was new
  set_here m members zero was new true test is later same made =
      ap (λ s. entry m.0 s (entries_of members)) (made ∙ ap (λ d. change (tree_of d)) same)
      ∙ rw test refl
  set_here m members (suc at) was new true test is later same made = absurd (cc)
  set_here m members at was new false test is later same made =
      set_later m members at was new test (place_of key members) is later same made

  pub set_member : (members : List Member) (at : ℕ) (was new : Data)
      → place_of key members ≡ Some at → IsSet members at was new
  set_member [] at was new is same made = absurd (cc)
  set_member (m ∷ members) at was new is same made =
      set_here m members at was new (bytes_eq m.0 key) refl is
      (λ later found. set_member members later was new found) same made

  -- a member was put last
  abbrev IsAdded : List Member → Data → Type 0
  IsAdded members new =
      tree_of new ≡ t
      → entries_of (members ++ (key, new) ∷ []) ≡ put key change t (entries_of members)

  added_later : (members : List Member) (new : Data) (place : Option ℕ)
      → option_map suc place ≡ None → (place ≡ None → IsAdded members new) → IsAdded members new
  added_later members new None is later made = later refl made
  added_later members new (Some place) is later made = absurd (cc)

  added_here : (m : Member) (members : List Member) (new : Data) (test : Bool)
      → bytes_eq m.0 key ≡ test
      → (if test then Some 0 else option_map suc (place_of key members)) ≡ None
      → (place_of key members ≡ None → IsAdded members new) → IsAdded (m ∷ members) new
  added_here m members new true test is later made = absurd (cc)
  added_here m members new false test is later made =
      ap (entry m.0 (tree_of m.1)) (added_later members new (place_of key members) is later made)
      ∙ rw test refl

  pub add_member : (members : List Member) (new : Data) → place_of key members ≡ None
      → IsAdded members new
  add_member [] new is made = ap (λ s. entry key s none) made
  add_member (m ∷ members) new is made =
      added_here m members new (bytes_eq m.0 key) refl is (add_member members new) made
