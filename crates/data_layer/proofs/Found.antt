-- The member of a Map at a key and the item of a List at an index, beside the trees that they stand
-- for.
use Rattle.std.proofs.Common.{◌≡◌, ℕ, zero, suc, ◌<◌, ◌≤◌, ◌+◌, ◌^◌, List, [], ◌∷◌, length, get_or}
use Rattle.std.proofs.Common.{slice_set, Option, Some, None, option_map, Bool, true, false}
use Rattle.std.proofs.Common.{if◌then◌else◌, refl, sym, ap, ◌∙◌, arith}
use Rattle.std.specs.Prelude.{decimal}
use Rattle.std.specs.Str.{bytes_eq}
use Rattle.std.proofs.lemmas.Fmt.{decimal_injective}
use Rattle.std.proofs.lemmas.Option.{slice_get_read}
use Rattle.std.proofs.lemmas.Slice.Eq.{bytes_eq-Decides}
use Rattle.gtm_base.specs.Keys.{has_key, place_of, with_value, value_at}
use Rattle.gtm_data.proofs.Indexes.{numbered-found}
use Rattle.gtm_data.proofs.Lists.{or_false}
use Rattle.gtm_data.specs.declared.data.Data.{Data}
use Rattle.gtm_data.specs.Paths.{member, numbered}
use Rattle.gtm_data.specs.Tree.{Tree, Trees, item, tree_of, trees_of, entries_of}
use Rattle.data_layer.specs.Change.{change_member, change_numbered}
use Rattle.data_layer.proofs.Changes.{found_put}
use Rattle.data_layer.proofs.Members.{Member, set_member}

-- ---- a member
later_place : (place : Option ℕ) (at : ℕ) → option_map suc place ≡ Some at
    → (later : ℕ) × (place ≡ Some later) × (at ≡ suc later)
later_place None at is = absurd (cc)
later_place (Some later) at is = (later, refl, cc)

module _ (key : List ℕ) where
  found_at : (test : Bool) (m : Member) (members : List Member) (at : ℕ) (was : Data)
      → (if test then Some 0 else option_map suc (place_of key members)) ≡ Some at
      → was ≡ value_at (m ∷ members) at was
      → ((later : ℕ) → place_of key members ≡ Some later → was ≡ value_at members later was
      → member key (entries_of members) ≡ Some (tree_of was))
      → (if test then Some (tree_of m.1) else member key (entries_of members)) ≡ Some (tree_of was)
  found_at true m members at was is same later =
      let first : 0 ≡ at = cc in
      ap (λ d. Some (tree_of d))
      (sym (same ∙ ap (λ place. value_at (m ∷ members) place was) (sym first)))
  found_at false m members at was is same later =
      let it = later_place (place_of key members) at is in
      later it.0 it.1 (same ∙ ap (λ place. value_at (m ∷ members) place was) it.2)

  pub found_member : (members : List Member) (at : ℕ) (was : Data) → place_of key members ≡ Some at
      → was ≡ value_at members at was → member key (entries_of members) ≡ Some (tree_of was)
  found_member [] at was is same = absurd (cc)
  found_member (m ∷ members) at was is same =
      found_at (bytes_eq m.0 key) m members at was is same (λ later. found_member members later was)

  absent_at : (test : Bool) (t : Tree) (found : Option Tree) → test ≡ false → found ≡ None
      → (if test then Some t else found) ≡ None
  absent_at true t found other none = cc
  absent_at false t found other none = none

  pub absent_key : (members : List Member) → has_key key members ≡ false
      → member key (entries_of members) ≡ None
  absent_key [] lacks = refl
  absent_key (m ∷ members) lacks =
      let both = or_false (bytes_eq m.0 key) (has_key key members) lacks in
      absent_at (bytes_eq m.0 key) (tree_of m.1) (member key (entries_of members)) both.0
      (absent_key members both.1)

  pub change_found : (change : Tree → Tree) (members : List Member) (at : ℕ) (was new : Data)
      → place_of key members ≡ Some at → was ≡ value_at members at was
      → tree_of new ≡ change (tree_of was)
      → entries_of (with_value members at new) ≡ change_member key change (entries_of members)
  change_found change members at was new is same made =
      set_member key change (tree_of new) members at was new is same made
      ∙ found_put key change (tree_of new) (entries_of members) (tree_of was)
      (found_member members at was is same)

-- ---- an item
pub found_item : (items : List Data) (at : ℕ) (name : List ℕ) (was : Data) → at < length items
    → length items < 2 ^ 64 → decimal at ≡ name → was ≡ get_or items at was
    → numbered 0 name (trees_of items) ≡ Some (tree_of was)
found_item items at name was within fits written same =
    numbered-found items 0 at name within (omega arith) (ap decimal (omega arith) ∙ written)
    ∙ ap (option_map tree_of) (slice_get_read items (length items) at was refl within same)

differs : (some other : List ℕ) → (some ≡ other → ⊥) → bytes_eq some other ≡ false
differs some other apart =
    elim (bytes_eq some other) as (λ b. bytes_eq some other ≡ b → b ≡ false)
    [ true ↦ λ e. absurd (apart ((bytes_eq-Decides some other).0 e)) | false ↦ λ e. refl ] refl

module _ (name : List ℕ) (change : Tree → Tree) where
  here : (test : Bool) (t s : Tree) (ts others : Trees) → test ≡ true → s ≡ change t
      → item s ts ≡ (if test then item (change t) ts else item t others)
  here true t s ts others is made = ap (λ u. item u ts) made
  here false t s ts others is made = cc

  further : (test : Bool) (t : Tree) (ts others : Trees) → test ≡ false
      → item t others ≡ (if test then item (change t) ts else item t others)
  further true t ts others is = cc
  further false t ts others is = refl

  set_from : (items : List Data) (start at : ℕ) (was new : Data) → at < length items
      → start + length items ≤ 2 ^ 64 → decimal (start + at) ≡ name → was ≡ get_or items at was
      → tree_of new ≡ change (tree_of was)
      → trees_of (slice_set items at new) ≡ change_numbered start name change (trees_of items)
  set_from [] start at was new within fits written same made = absurd (omega arith)
  set_from (x ∷ items) start zero was new within fits written same made =
      here (bytes_eq (decimal start) name) (tree_of x) (tree_of new) (trees_of items)
      (change_numbered (start + 1) name change (trees_of items))
      ((bytes_eq-Decides (decimal start) name).1 (ap decimal (omega arith) ∙ written))
      (made ∙ ap (λ d. change (tree_of d)) same)
  set_from (x ∷ items) start (suc at) was new within fits written same made =
      let other : bytes_eq (decimal start) name ≡ false =
      differs (decimal start) name
      (λ e. let alike : start ≡ start + suc at =
      decimal_injective start (start + suc at) (omega arith) (omega arith) (e ∙ sym written) in
      omega arith) in
      ap (item (tree_of x))
      (set_from items (start + 1) at was new (omega arith) (omega arith)
      (ap decimal (omega arith) ∙ written) same made)
      ∙ further (bytes_eq (decimal start) name) (tree_of x) (trees_of items)
      (change_numbered (start + 1) name change (trees_of items)) other

  pub change_item : (items : List Data) (at : ℕ) (was new : Data) → at < length items
      → length items < 2 ^ 64 → decimal at ≡ name → was ≡ get_or items at was
      → tree_of new ≡ change (tree_of was)
      → trees_of (slice_set items at new) ≡ change_numbered 0 name change (trees_of items)
  change_item items at was new within fits written same made =
      set_from items 0 at was new within (omega arith) (ap decimal (omega arith) ∙ written) same
      made
