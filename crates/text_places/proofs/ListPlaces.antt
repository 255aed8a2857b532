-- What stands at the places of a list, and of its first part.
use Rattle.std.proofs.Common.{◌≡◌, ℕ, zero, suc, ◌+◌, ◌<◌, List, [], ◌∷◌, ◌++◌, length, get_or}
use Rattle.std.proofs.Common.{take, map, Some, refl, sym, ap, ◌∙◌, arith, add-one, slice_get}
use Rattle.std.specs.Prelude.{option_map}
use Rattle.std.proofs.lemmas.Option.{slice_get-map, slice_get-get_or}

-- what a map makes of the item at a place stands there
pub mapped_at : {A B : Type 0} (f : A → B) (items : List A) (at : ℕ) (item : A) (made : B)
    → at < length items → item ≡ get_or items at item → f item ≡ made
    → slice_get (map f items) at ≡ Some made
mapped_at f items at item made within is makes =
    slice_get-map f items at ∙ ap (option_map f) (slice_get-get_or items at item within)
    ∙ ap (λ it. Some (f it)) (sym is) ∙ ap Some makes

module _ {A : Type 0} where
  pub slice_get-take : (items : List A) (count at : ℕ) → at < count
      → slice_get (take count items) at ≡ slice_get items at
  slice_get-take items zero at within = absurd (omega arith)
  slice_get-take [] (suc count) at within = refl
  slice_get-take (item ∷ items) (suc count) zero within = refl
  slice_get-take (item ∷ items) (suc count) (suc at) within =
      slice_get-take items count at (omega arith)

  more : (items : List A) (at : ℕ) (item : A) → slice_get items at ≡ Some item
      → take (suc at) items ≡ take at items ++ item ∷ []
  more [] at item is = absurd (cc)
  more (first ∷ items) zero item is = let same : first ≡ item = cc in ap (λ it. it ∷ []) same
  more (first ∷ items) (suc at) item is = ap (λ rest. first ∷ rest) (more items at item is)

  -- the first part with one item more
  pub take_more : (items : List A) (at : ℕ) (item : A) → slice_get items at ≡ Some item
      → take (at + 1) items ≡ take at items ++ item ∷ []
  take_more items at item is = ap (λ count. take count items) (add-one at) ∙ more items at item is

  -- the first part before an item is as long as its place says
  pub length-take_before : (items : List A) (at : ℕ) (item : A) → slice_get items at ≡ Some item
      → length (take at items) ≡ at
  length-take_before [] at item is = absurd (cc)
  length-take_before (first ∷ items) zero item is = refl
  length-take_before (first ∷ items) (suc at) item is = ap suc (length-take_before items at item is)
