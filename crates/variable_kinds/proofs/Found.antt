-- The row that is found, by its place.
use Rattle.std.proofs.Common.{◌≡◌, ◌<◌, ℕ, zero, suc, List, Bool, true, false, Some, None}
use Rattle.std.proofs.Common.{refl, ap, sym, ◌∙◌, subst, arith}
use Rattle.std.specs.Prelude.{◌↔◌, codes, if◌then◌else◌}
use Rattle.gtm_data.specs.Paths.{nth}
use Rattle.gtm_data.specs.Tree.{Tree, Trees, end, item}
use Rattle.variable_kinds.specs.Fields.{field, first_row}
use Rattle.variable_kinds.specs.Found.{IsFirstFound, IsNoneFound, passes_by_key}

module _ (passes : List ℕ → Bool) where
  abbrev test : Tree → Bool
  test = passes_by_key passes

  value_is : (row value : Tree) → Some (field (codes "value") row) ≡ Some value
      → value ≡ field (codes "value") row
  value_is row value is = let same : field (codes "value") row ≡ value = cc in sym same

  pub found : (rows : Trees) (value : Tree) → first_row passes rows ≡ Some value
      → IsFirstFound passes rows value
  found end value is = absurd (cc is)
  found (item row rows) value is =
      by_test (test row) refl is (λ later. found rows value later) where
        by_test : (b : Bool) → test row ≡ b
            → (if b then Some (field (codes "value") row) else first_row passes rows) ≡ Some value
            → (first_row passes rows ≡ Some value → IsFirstFound passes rows value)
            → IsFirstFound passes (item row rows) value
        by_test true passed is below = record {
          place = 0;
          row = row;
          stands = refl;
          passed = passed;
          first = λ earlier other before. absurd (omega (arith, before));
          given = value_is row value is;
        }
        by_test false failed is below =
            let later = below is in
            record {
              place = suc later.place;
              row = later.row;
              stands = later.stands;
              passed = later.passed;
              first = by_place later;
              given = later.given;
            } where
              by_place : (later : IsFirstFound passes rows value) (earlier : ℕ) (other : Tree)
                  → earlier < suc later.place → nth earlier (item row rows) ≡ Some other
                  → test other ≡ false
              by_place later zero other before is =
                  let same : row ≡ other = cc in subst (λ r. test r ≡ false) same failed
              by_place later (suc earlier) other before is =
                  later.first earlier other (omega (arith, before)) is

  pub none : (rows : Trees) → first_row passes rows ≡ None → IsNoneFound passes rows
  none end is = record { nowhere = λ place row stands. absurd (cc stands) }
  none (item row rows) is = by_test (test row) refl is (λ later. none rows later) where
    by_test : (b : Bool) → test row ≡ b
        → (if b then Some (field (codes "value") row) else first_row passes rows) ≡ None
        → (first_row passes rows ≡ None → IsNoneFound passes rows)
        → IsNoneFound passes (item row rows)
    by_test true passed is below = absurd (cc is)
    by_test false failed is below = record { nowhere = by_place (below is) } where
      by_place : (later : IsNoneFound passes rows) (place : ℕ) (other : Tree)
          → nth place (item row rows) ≡ Some other → test other ≡ false
      by_place later zero other is =
          let same : row ≡ other = cc in subst (λ r. test r ≡ false) same failed
      by_place later (suc place) other is = later.nowhere place other is

  from_place : (rows : Trees) (place : ℕ) (row : Tree) → nth place rows ≡ Some row
      → test row ≡ true
      → ((earlier : ℕ) (other : Tree) → earlier < place → nth earlier rows ≡ Some other
      → test other ≡ false)
      → first_row passes rows ≡ Some (field (codes "value") row)
  from_place end place row stands passed first = absurd (cc stands)
  from_place (item here rows) zero row stands passed first =
      let same : here ≡ row = cc in
      ap (λ b. if b then Some (field (codes "value") here) else first_row passes rows)
      (subst (λ r. test r ≡ true) (sym same) passed)
      ∙ ap (λ r. Some (field (codes "value") r)) same
  from_place (item here rows) (suc place) row stands passed first =
      ap (λ b. if b then Some (field (codes "value") here) else first_row passes rows)
      (first 0 here (omega arith) refl)
      ∙ from_place rows place row stands passed
      (λ earlier other before is. first (suc earlier) other (omega (arith, before)) is)

  from_none : (rows : Trees)
      → ((place : ℕ) (row : Tree) → nth place rows ≡ Some row → test row ≡ false)
      → first_row passes rows ≡ None
  from_none end nowhere = refl
  from_none (item here rows) nowhere =
      ap (λ b. if b then Some (field (codes "value") here) else first_row passes rows)
      (nowhere 0 here refl)
      ∙ from_none rows (λ place row is. nowhere (suc place) row is)

  pub first_found : (rows : Trees) (value : Tree)
      → (first_row passes rows ≡ Some value) ↔ IsFirstFound passes rows value
  first_found rows value = (
    found rows value,
    λ is. from_place rows is.place is.row is.stands is.passed is.first ∙ ap Some (sym is.given),
  )

  pub none_found : (rows : Trees) → (first_row passes rows ≡ None) ↔ IsNoneFound passes rows
  none_found rows = (none rows, λ is. from_none rows is.nowhere)
