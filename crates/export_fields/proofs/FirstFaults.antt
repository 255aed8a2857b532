-- The first item that has a fault.
use Rattle.std.proofs.Common.{◌≡◌, ◌+◌, ◌<◌, ◌↔◌, ℕ, zero, suc, List, Option, Some, None}
use Rattle.std.proofs.Common.{option_map, arith, refl, ap, sym, ◌∙◌}
use Rattle.std.proofs.lemmas.Option.{none-some}
use Rattle.std.specs.Prelude.{unwrap_or}
use Rattle.serde_json.specs.Data.{Data, Items, no_items, item}
use Rattle.serde_json.specs.Find.{get_item}
use Rattle.export_fields.specs.Fault.{in_index, ◌then◌}
use Rattle.export_fields.specs.ListOf.{items_fault, IsFirstFault}

-- what is within two equal options is equal
same_within : {A : Type 0} (a b : A) → Some a ≡ Some b → a ≡ b
same_within a b e = ap (λ o. unwrap_or o a) e

module _ (fault : Data → Option (List ℕ)) where
  -- no item has a fault
  abbrev NoneFails : Items → Type 0
  NoneFails ds = (place : ℕ) (d : Data) → get_item place ds ≡ Some d → fault d ≡ None

  -- no item before this place has a fault
  abbrev NoneBefore : ℕ → Items → Type 0
  NoneBefore place ds =
      (earlier : ℕ) (d : Data) → earlier < place → get_item earlier ds ≡ Some d → fault d ≡ None

  -- the first fault of items, the first of which stands at this place
  abbrev First : ℕ → Items → List ℕ → Type 0
  First from ds path =
      (at : ℕ) × (value : Data) × (inner : List ℕ) × (get_item at ds ≡ Some value)
      × (fault value ≡ Some inner) × NoneBefore at ds × (path ≡ in_index (from + at) inner)

  -- none fails where the first does not and none of the rest
  none_told : (d : Data) (ds : Items) (o : Option (List ℕ)) (later : Option (List ℕ)) (place : ℕ)
      → fault d ≡ o → (later ≡ None → NoneFails ds)
      → (option_map (in_index place) o then later) ≡ None → NoneFails (item d ds)
  none_told d ds None later place is more e zero found g =
      ap fault (sym (same_within d found g)) ∙ is
  none_told d ds None later place is more e (suc n) found g = more e n found g
  none_told d ds (Some p) later place is more e n found g = absurd (none-some _ (sym e))

  -- with no fault of the items no item has one
  none_fails : (from : ℕ) (ds : Items) → items_fault fault from ds ≡ None → NoneFails ds
  none_fails from no_items e = λ place d g. absurd (none-some d g)
  none_fails from (item d ds) e =
      none_told d ds (fault d) (items_fault fault (from + 1) ds) from refl
      (none_fails (from + 1) ds) e

  -- and with none of any item the items have none
  no_fault : (from : ℕ) (ds : Items) → NoneFails ds → items_fault fault from ds ≡ None
  no_fault from no_items none = refl
  no_fault from (item d ds) none =
      ap (λ o. option_map (in_index from) o then items_fault fault (from + 1) ds) (none 0 d refl)
      ∙ no_fault (from + 1) ds (λ place e g. none (suc place) e g)

  -- none fails before the next place
  none_before : (d : Data) (ds : Items) (at : ℕ) → fault d ≡ None → NoneBefore at ds
      → NoneBefore (suc at) (item d ds)
  none_before d ds at is before zero found less g = ap fault (sym (same_within d found g)) ∙ is
  none_before d ds at is before (suc n) found less g = before n found (omega arith) g

  -- the first is the one at hand, or the first of the rest
  first_told : (d : Data) (ds : Items) (o later : Option (List ℕ)) (from : ℕ) (path : List ℕ)
      → fault d ≡ o → (later ≡ Some path → First (from + 1) ds path)
      → (option_map (in_index from) o then later) ≡ Some path → First from (item d ds) path
  first_told d ds None later from path is more e =
      let f = more e in
      let sum : from + 1 + f.0 ≡ from + suc f.0 = omega arith in
      (suc f.0, f.1, f.2, f.3, f.4, none_before d ds f.0 is f.5, f.6 ∙ ap (λ n. in_index n f.2) sum)
  first_told d ds (Some p) later from path is more e =
      let sum : from ≡ from + 0 = omega arith in (
        0,
        d,
        p,
        refl,
        is,
        (λ earlier found less g. absurd (omega arith)),
        sym (same_within _ path e) ∙ ap (λ n. in_index n p) sum,
      )

  -- the fault of the items is that of the first
  first_of_items : (from : ℕ) (ds : Items) (path : List ℕ) → items_fault fault from ds ≡ Some path
      → First from ds path
  first_of_items from no_items path e = absurd (none-some path e)
  first_of_items from (item d ds) path e =
      first_told d ds (fault d) (items_fault fault (from + 1) ds) from path refl
      (first_of_items (from + 1) ds path) e

  -- and that of the first is the fault of the items
  fault_of_first : (from at : ℕ) (ds : Items) (value : Data) (inner : List ℕ)
      → get_item at ds ≡ Some value → fault value ≡ Some inner → NoneBefore at ds
      → items_fault fault from ds ≡ Some (in_index (from + at) inner)
  fault_of_first from at no_items value inner stands breaks before = absurd (none-some value stands)
  fault_of_first from zero (item d ds) value inner stands breaks before =
      let sum : from ≡ from + 0 = omega arith in
      ap (λ o. option_map (in_index from) o then items_fault fault (from + 1) ds)
      (ap fault (same_within d value stands) ∙ breaks)
      ∙ ap (λ n. Some (in_index n inner)) sum
  fault_of_first from (suc at) (item d ds) value inner stands breaks before =
      let sum : from + 1 + at ≡ from + suc at = omega arith in
      ap (λ o. option_map (in_index from) o then items_fault fault (from + 1) ds)
      (before 0 d (omega arith) refl)
      ∙ fault_of_first (from + 1) at ds value inner stands breaks
      (λ earlier e less g. before (suc earlier) e (omega arith) g)
      ∙ ap (λ n. Some (in_index n inner)) sum

  -- both ways, where there is none
  pub none_fails_exactly : (ds : Items) → (items_fault fault 0 ds ≡ None) ↔ NoneFails ds
  none_fails_exactly ds = (none_fails 0 ds, no_fault 0 ds)

  -- counted from 0, the fault is that of the first
  told_is_first : (ds : Items) (path : List ℕ) → items_fault fault 0 ds ≡ Some path
      → IsFirstFault fault ds path
  told_is_first ds path e =
      let f = first_of_items 0 ds path e in
      let sum : 0 + f.0 ≡ f.0 = omega arith in
      record {
        place =
            f.0;
        value =
            f.1;
        inner =
            f.2;
        stands =
            f.3;
        breaks = f.4;
        before = f.5;
        path_is = f.6 ∙ ap (λ n. in_index n f.2) sum;
      }

  -- and back
  first_is_told : (ds : Items) (path : List ℕ) → IsFirstFault fault ds path
      → items_fault fault 0 ds ≡ Some path
  first_is_told ds path f =
      let sum : 0 + f.place ≡ f.place = omega arith in
      fault_of_first 0 f.place ds f.value f.inner f.stands f.breaks f.before
      ∙ ap (λ n. Some (in_index n f.inner)) sum
      ∙ ap (λ p. Some p) (sym f.path_is)

  -- both ways, where there is one
  pub first_exactly : (ds : Items) (path : List ℕ) → (items_fault fault 0 ds ≡ Some path)
      ↔ IsFirstFault fault ds path
  first_exactly ds path = (told_is_first ds path, first_is_told ds path)
