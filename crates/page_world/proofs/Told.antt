-- What functions below a path return, where those behind its first part were changed.
use Rattle.std.proofs.Common.{◌≡◌, ℕ, zero, suc, List, [], ◌∷◌, Option, Some, None, Bool, true}
use Rattle.std.proofs.Common.{false, true≢false, if◌then◌else◌, slice_get, refl, sym, ap, ◌∙◌}
use Rattle.std.proofs.Common.{rules}
use Rattle.std.specs.Prelude.{◌&&◌, option_and_then, option_map}
use Rattle.std.specs.Str.{bytes_eq}
use Rattle.gtm_base.specs.Keys.{place_of, value_of, value_at}
use Rattle.gtm_base.proofs.Lookups.{found_at, value_of-absent}
use Rattle.gtm_base.specs.declared.keyed.Keyed.{Keyed}
use Rattle.gtm_data.specs.declared.data.Data.{Data}
use Rattle.gtm_data.specs.Tree.{Tree, tree_of}
use Rattle.data_layer.proofs.Steps.{equal_keys, same_key, some_same}
use Rattle.page_world.specs.Pairs.{placed}
use Rattle.page_world.specs.Returned.{returned_in, returned_below}
use Rattle.page_world.specs.Returns.{forgotten, with_return}
use Rattle.page_world.specs.declared.returns.Returns.{Returns, the_lemmas}
use Rattle.page_world.specs.declared.returns.Returns.TheViews.{out-Returns, roll-Returns}
use Rattle.page_world.proofs.Placed.{value_of-placed}

value_at-pair : {A : Type 0} (pairs : List (List ℕ × A)) (at : ℕ) (key : List ℕ) (value other : A)
    → slice_get pairs at ≡ Some (key, value) → value_at pairs at other ≡ value
value_at-pair [] at key value other there = absurd (cc)
value_at-pair (pair ∷ pairs) zero key value other there =
    let same : pair ≡ (key, value) = some_same there in
    ap (λ p. p.1) same
value_at-pair (pair ∷ pairs) (suc at) key value other there =
    value_at-pair pairs at key value other there

-- where a value stands at the key's place, it is the key's
pub value_at-key : {A : Type 0} (key : List ℕ) (pairs : List (List ℕ × A)) (at : ℕ) (was : A)
    → place_of key pairs ≡ Some at → was ≡ value_at pairs at was → value_of key pairs ≡ Some was
value_at-key key pairs at was place is =
    let found = found_at key pairs at place in
    found.value_is
    ∙ ap Some (sym (is ∙ value_at-pair pairs at key found.value was found.pair))

flip_false : (a b : List ℕ) (test : Bool) → bytes_eq a b ≡ false → bytes_eq b a ≡ test
    → test ≡ false
flip_false a b true apart is =
    absurd (true≢false (sym (same_key a) ∙ ap (bytes_eq a) (sym (equal_keys b a is)) ∙ apart))
flip_false a b false apart is = refl

pub flip : (a b : List ℕ) (test : Bool) → bytes_eq a b ≡ test → bytes_eq b a ≡ test
flip a b true is = ap (bytes_eq b) (equal_keys a b is) ∙ same_key b
flip a b false is = flip_false a b (bytes_eq b a) is refl

abbrev Path : Type 0
Path = List (List ℕ)

module _ (part : List ℕ) (pairs : List (List ℕ × Returns)) where
  -- the functions of these returns are those behind the part
  below_at : (same : Bool) (test : Bool) (answer : Option Tree) (new : Returns)
      (old : Option Returns) (other : List ℕ) (others : Path)
      → bytes_eq part other ≡ same → value_of part pairs ≡ old
      → returned_in new others
      ≡ (if test then answer else option_and_then (λ below. returned_in below others) old)
      → option_and_then (λ below. returned_in below others)
      (if same then Some new else value_of other pairs)
      ≡ (if same && test then answer else returned_below pairs (other ∷ others))
  below_at true test answer new old other others is was told =
      told
      ∙ ap (λ found. if test then answer
      else option_and_then (λ below. returned_in below others) found)
      (sym was ∙ ap (λ key. value_of key pairs) (equal_keys part other is))
  below_at false test answer new old other others is was told = refl

  pub told_below : (test : Bool) (answer : Option Tree) (new : Returns) (place : Option ℕ)
      (old : Option Returns) (other : List ℕ) (others : Path)
      → place_of part pairs ≡ place → value_of part pairs ≡ old
      → returned_in new others
      ≡ (if test then answer else option_and_then (λ below. returned_in below others) old)
      → returned_below (placed place part new pairs) (other ∷ others)
      ≡ (if bytes_eq other part && test then answer else returned_below pairs (other ∷ others))
  told_below test answer new place old other others there was told =
      ap (option_and_then (λ below. returned_in below others))
      (value_of-placed part new other pairs place there)
      ∙ below_at (bytes_eq part other) test answer new old other others refl was told
      ∙ ap (λ same. if same && test then answer else returned_below pairs (other ∷ others))
      (sym (flip part other (bytes_eq part other) refl))

  either_way : (test : Bool) (found : Option Tree) → found ≡ None
      → found ≡ (if test then None else found)
  either_way true found is = is
  either_way false found is = refl

  absent_at : (same test : Bool) (other : List ℕ) (others : Path) → bytes_eq other part ≡ same
      → value_of part pairs ≡ None
      → returned_below pairs (other ∷ others)
      ≡ (if same && test then None else returned_below pairs (other ∷ others))
  absent_at true test other others is absent =
      either_way test (returned_below pairs (other ∷ others))
      (ap (λ key. option_and_then (λ below. returned_in below others) (value_of key pairs))
      (equal_keys other part is)
      ∙ ap (option_and_then (λ below. returned_in below others)) absent)
  absent_at false test other others is absent = refl

  -- where no functions are behind the part, there is none to forget
  pub absent_below : (test : Bool) (other : List ℕ) (others : Path) → place_of part pairs ≡ None
      → returned_below pairs (other ∷ others)
      ≡ (if bytes_eq other part && test then None else returned_below pairs (other ∷ others))
  absent_below test other others none =
      absent_at (bytes_eq other part) test other others refl (value_of-absent part pairs none)

-- ---- a tree of functions, whose functions below were changed
opened : (told : Option Data) (below : Keyed Returns)
    → out-Returns (roll-Returns (record { told = told; below = below }))
    ≡ record { told = told; below = below }
opened told below = search (rules, the_lemmas)

module _ (told : Option Data) (below : Keyed Returns) where
  here_in : returned_in (roll-Returns (record { told = told; below = below })) []
      ≡ option_map tree_of told
  here_in = ap (λ layer. option_map tree_of layer.told) (opened told below)

  below_in : (part : List ℕ) (parts : Path)
      → returned_in (roll-Returns (record { told = told; below = below })) (part ∷ parts)
      ≡ returned_below below.pairs (part ∷ parts)
  below_in part parts =
      ap (λ layer. returned_below layer.below.pairs (part ∷ parts)) (opened told below)

pub nothing_new : (below : Keyed Returns) → below.pairs ≡ [] → (parts : Path)
    → returned_in (roll-Returns (record { told = None; below = below })) parts ≡ None
nothing_new below none [] = here_in None below
nothing_new below none (part ∷ parts) =
    below_in None below part parts ∙ ap (λ pairs. returned_below pairs (part ∷ parts)) none

pub forgotten_within : (part : List ℕ) (rest : Path) (old : Returns) (below : Keyed Returns)
    → ((other : List ℕ) (others : Path) → returned_below below.pairs (other ∷ others)
    ≡ forgotten (part ∷ rest) (returned_below (out-Returns old).below.pairs) (other ∷ others))
    → (others : Path)
    → returned_in (roll-Returns (record { told = (out-Returns old).told; below = below })) others
    ≡ forgotten (part ∷ rest) (returned_in old) others
forgotten_within part rest old below is [] = here_in (out-Returns old).told below
forgotten_within part rest old below is (other ∷ others) =
    below_in (out-Returns old).told below other others ∙ is other others

pub told_within : (part : List ℕ) (rest : Path) (value : Tree) (old : Returns)
    (below : Keyed Returns)
    → ((other : List ℕ) (others : Path) → returned_below below.pairs (other ∷ others)
    ≡ with_return (part ∷ rest) value (returned_below (out-Returns old).below.pairs)
    (other ∷ others))
    → (others : Path)
    → returned_in (roll-Returns (record { told = (out-Returns old).told; below = below })) others
    ≡ with_return (part ∷ rest) value (returned_in old) others
told_within part rest value old below is [] = here_in (out-Returns old).told below
told_within part rest value old below is (other ∷ others) =
    below_in (out-Returns old).told below other others ∙ is other others

pub told_here : (value : Data) (old : Returns) (others : Path)
    → returned_in
    (roll-Returns (record { told = Some value; below = (out-Returns old).below })) others
    ≡ with_return [] (tree_of value) (returned_in old) others
told_here value old [] = here_in (Some value) (out-Returns old).below
told_here value old (other ∷ others) =
    below_in (Some value) (out-Returns old).below other others
