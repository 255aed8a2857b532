-- The first item that has a fault.
use Rattle.std.proofs.Common.{◌≡◌, ◌+◌, ◌<◌, ◌↔◌, ℕ, zero, suc, List, [], ◌∷◌, Option, Some, None}
use Rattle.std.proofs.Common.{option_map, arith, refl, ap, sym, ◌∙◌, slice_get}
use Rattle.std.proofs.lemmas.Option.{none-some}
use Rattle.std.specs.Prelude.{unwrap_or}
use Rattle.export_fields.specs.Fault.{in_index, ◌then◌}
use Rattle.export_checks.specs.FirstFault.{items_fault, IsFirstFault}

-- what is within two equal options is equal
same_within : {A : Type 0} (a b : A) → Some a ≡ Some b → a ≡ b
same_within a b e = ap (λ o. unwrap_or o a) e

module _ {A : Type 0} (fault : A → Option (List ℕ)) where
  -- no item has a fault
  abbrev pub NoneBreaks : List A → Type 0
  NoneBreaks xs = (place : ℕ) (x : A) → slice_get xs place ≡ Some x → fault x ≡ None

  -- no item before this place has a fault
  abbrev NoneBefore : ℕ → List A → Type 0
  NoneBefore place xs =
      (earlier : ℕ) (x : A) → earlier < place → slice_get xs earlier ≡ Some x → fault x ≡ None

  -- the first fault of items, the first of which stands at this place
  abbrev First : ℕ → List A → List ℕ → Type 0
  First from xs path =
      (at : ℕ) × (item : A) × (inner : List ℕ) × (slice_get xs at ≡ Some item)
      × (fault item ≡ Some inner) × NoneBefore at xs × (path ≡ in_index (from + at) inner)

  -- none breaks where the first does not and none of the rest
  none_told : (x : A) (xs : List A) (o : Option (List ℕ)) (later : Option (List ℕ)) (place : ℕ)
      → fault x ≡ o → (later ≡ None → NoneBreaks xs)
      → (option_map (in_index place) o then later) ≡ None → NoneBreaks (x ∷ xs)
  none_told x xs None later place is more e zero found g =
      ap fault (sym (same_within x found g)) ∙ is
  none_told x xs None later place is more e (suc n) found g = more e n found g
  none_told x xs (Some p) later place is more e n found g = absurd (none-some _ (sym e))

  -- with no fault of the items no item has one
  none_breaks : (from : ℕ) (xs : List A) → items_fault fault from xs ≡ None → NoneBreaks xs
  none_breaks from [] e = λ place x g. absurd (none-some x g)
  none_breaks from (x ∷ xs) e =
      none_told x xs (fault x) (items_fault fault (suc from) xs) from refl
      (none_breaks (suc from) xs) e

  -- and with none of any item the items have none
  no_fault : (from : ℕ) (xs : List A) → NoneBreaks xs → items_fault fault from xs ≡ None
  no_fault from [] none = refl
  no_fault from (x ∷ xs) none =
      ap (λ o. option_map (in_index from) o then items_fault fault (suc from) xs) (none 0 x refl)
      ∙ no_fault (suc from) xs (λ place y g. none (suc place) y g)

  -- none breaks before the next place
  none_before : (x : A) (xs : List A) (at : ℕ) → fault x ≡ None → NoneBefore at xs
      → NoneBefore (suc at) (x ∷ xs)
  none_before x xs at is before zero found less g = ap fault (sym (same_within x found g)) ∙ is
  none_before x xs at is before (suc n) found less g = before n found (omega arith) g

  -- the first is the one at hand, or the first of the rest
  first_told : (x : A) (xs : List A) (o later : Option (List ℕ)) (from : ℕ) (path : List ℕ)
      → fault x ≡ o → (later ≡ Some path → First (suc from) xs path)
      → (option_map (in_index from) o then later) ≡ Some path → First from (x ∷ xs) path
  first_told x xs None later from path is more e =
      let f = more e in
      let sum : suc from + f.0 ≡ from + suc f.0 = omega arith in
      (suc f.0, f.1, f.2, f.3, f.4, none_before x xs f.0 is f.5, f.6 ∙ ap (λ n. in_index n f.2) sum)
  first_told x xs (Some p) later from path is more e =
      let sum : from ≡ from + 0 = omega arith in (
        0,
        x,
        p,
        refl,
        is,
        (λ earlier found less g. absurd (omega arith)),
        sym (same_within _ path e) ∙ ap (λ n. in_index n p) sum,
      )

  -- the fault of the items is that of the first
  first_of_items : (from : ℕ) (xs : List A) (path : List ℕ) → items_fault fault from xs ≡ Some path
      → First from xs path
  first_of_items from [] path e = absurd (none-some path e)
  first_of_items from (x ∷ xs) path e =
      first_told x xs (fault x) (items_fault fault (suc from) xs) from path refl
      (first_of_items (suc from) xs path) e

  -- and that of the first is the fault of the items
  fault_of_first : (from at : ℕ) (xs : List A) (item : A) (inner : List ℕ)
      → slice_get xs at ≡ Some item → fault item ≡ Some inner → NoneBefore at xs
      → items_fault fault from xs ≡ Some (in_index (from + at) inner)
  fault_of_first from at [] item inner stands breaks before = absurd (none-some item stands)
  fault_of_first from zero (x ∷ xs) item inner stands breaks before =
      let sum : from ≡ from + 0 = omega arith in
      ap (λ o. option_map (in_index from) o then items_fault fault (suc from) xs)
      (ap fault (same_within x item stands) ∙ breaks)
      ∙ ap (λ n. Some (in_index n inner)) sum
  fault_of_first from (suc at) (x ∷ xs) item inner stands breaks before =
      let sum : suc from + at ≡ from + suc at = omega arith in
      ap (λ o. option_map (in_index from) o then items_fault fault (suc from) xs)
      (before 0 x (omega arith) refl)
      ∙ fault_of_first (suc from) at xs item inner stands breaks
      (λ earlier y less g. before (suc earlier) y (omega arith) g)
      ∙ ap (λ n. Some (in_index n inner)) sum

  -- both ways, where there is none
  pub none_exactly : (xs : List A) → (items_fault fault 0 xs ≡ None) ↔ NoneBreaks xs
  none_exactly xs = (none_breaks 0 xs, no_fault 0 xs)

  -- counted from 0, the fault is that of the first
  told_is_first : (xs : List A) (path : List ℕ) → items_fault fault 0 xs ≡ Some path
      → IsFirstFault fault xs path
  told_is_first xs path e =
      let f = first_of_items 0 xs path e in
      let sum : 0 + f.0 ≡ f.0 = omega arith in
      record {
        place =
            f.0;
        item =
            f.1;
        inner =
            f.2;
        stands =
            f.3;
        breaks = f.4;
        before = f.5;
        path_is = f.6 ∙ ap (λ n. in_index n f.2) sum;
      }

  -- and back
  first_is_told : (xs : List A) (path : List ℕ) → IsFirstFault fault xs path
      → items_fault fault 0 xs ≡ Some path
  first_is_told xs path f =
      let sum : 0 + f.place ≡ f.place = omega arith in
      fault_of_first 0 f.place xs f.item f.inner f.stands f.breaks f.before
      ∙ ap (λ n. Some (in_index n f.inner)) sum
      ∙ ap (λ p. Some p) (sym f.path_is)

  -- both ways, where there is one
  pub first_exactly : (xs : List A) (path : List ℕ) → (items_fault fault 0 xs ≡ Some path)
      ↔ IsFirstFault fault xs path
  first_exactly xs path = (told_is_first xs path, first_is_told xs path)
