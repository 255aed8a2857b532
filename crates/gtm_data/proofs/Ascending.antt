-- Members in ascending order of the bytes of their keys, to which one more comes.
use Rattle.std.proofs.Common.{◌≡◌, ℕ, zero, suc, List, [], ◌∷◌, Bool, true, false, ◌||◌, Option}
use Rattle.std.proofs.Common.{Some, None, Ordering, Less, Equal, Greater, option_map, refl, sym, ap}
use Rattle.std.proofs.Common.{◌∙◌}
use Rattle.std.proofs.lemmas.Cmp.{nat_list_cmp_total, tied_itself}
use Rattle.std.proofs.lemmas.Slice.Eq.{bytes_eq-Decides}
use Rattle.std.specs.Prelude.{insert, encode_utf8_all}
use Rattle.std.specs.Cmp.Lexicographic.{slice_cmp}
use Rattle.std.specs.Ordering.{nat_cmp, match_ordering, ordering_reverse}
use Rattle.std.specs.Str.{bytes_eq}
use Rattle.gtm_base.specs.Keys.{has_key}
use Rattle.gtm_data.specs.Parsing.{Ascend, IsBelow, place_for}

below_later : {A : Type 0} (key other : List ℕ) (ps : List (List ℕ × A))
    → slice_cmp nat_cmp key other ≡ Less → IsBelow other ps → IsBelow key ps
below_later key other [] less below = tt
below_later key other (p ∷ ps) less below = (
  nat_list_cmp_total.trans key other (encode_utf8_all p.0) less below.0,
  below_later key other ps less below.1,
)

-- two keys of which one stands before the other
apart_by : (b : Bool) (some other : List ℕ)
    → (slice_cmp nat_cmp (encode_utf8_all some) (encode_utf8_all other) ≡ Equal → ⊥)
    → bytes_eq other some ≡ b → b ≡ false
apart_by true some other apart is =
    let same : other ≡ some = (bytes_eq-Decides other some).0 is in
    absurd
    (apart
    (ap (λ name. slice_cmp nat_cmp (encode_utf8_all some) (encode_utf8_all name)) same
    ∙ tied_itself nat_list_cmp_total (encode_utf8_all some)))
apart_by false some other apart is = refl

differs : (some other : List ℕ) (o : Ordering)
    → slice_cmp nat_cmp (encode_utf8_all some) (encode_utf8_all other) ≡ o → (o ≡ Equal → ⊥)
    → bytes_eq other some ≡ false
differs some other o is apart =
    apart_by (bytes_eq other some) some other (λ e. apart (sym is ∙ e)) refl

module _ {A : Type 0} (name : List ℕ) where
  absent_below : (ps : List (List ℕ × A)) → IsBelow (encode_utf8_all name) ps
      → has_key name ps ≡ false
  absent_below [] below = refl
  absent_below (p ∷ ps) below =
      λ i. differs name p.0 Less below.0 (λ e. cc) i || absent_below ps below.1 i

  absent_at : (o : Ordering) (p : List ℕ × A) (ps : List (List ℕ × A)) (later : Option ℕ) (at : ℕ)
      → slice_cmp nat_cmp (encode_utf8_all name) (encode_utf8_all p.0) ≡ o
      → IsBelow (encode_utf8_all p.0) ps
      → ((place : ℕ) → later ≡ Some place → has_key name ps ≡ false)
      → match_ordering o (Some 0) None (option_map suc later) ≡ Some at
      → has_key name (p ∷ ps) ≡ false
  absent_at Less p ps later at less below more is =
      λ i. differs name p.0 Less less (λ e. cc) i
      || absent_below ps (below_later _ (encode_utf8_all p.0) ps less below) i
  absent_at Equal p ps later at same below more is = absurd (cc)
  absent_at Greater p ps None at greater below more is = absurd (cc)
  absent_at Greater p ps (Some place) at greater below more is =
      λ i. differs name p.0 Greater greater (λ e. cc) i || more place refl i

  -- a key that has a place is not there
  pub absent : (ps : List (List ℕ × A)) (at : ℕ) → Ascend ps
      → place_for (encode_utf8_all name) ps ≡ Some at → has_key name ps ≡ false
  absent [] at ascend is = refl
  absent (p ∷ ps) at ascend is =
      absent_at (slice_cmp nat_cmp (encode_utf8_all name) (encode_utf8_all p.0)) p ps
      (place_for (encode_utf8_all name) ps) at refl ascend.0
      (λ place found. absent ps place ascend.1 found) is

module _ {A : Type 0} (name : List ℕ) (value : A) where
  below_insert : (other : List ℕ) (ps : List (List ℕ × A)) (at : ℕ) → IsBelow other ps
      → slice_cmp nat_cmp other (encode_utf8_all name) ≡ Less
      → IsBelow other (insert ps at (name, value))
  below_insert other [] zero below less = (less, tt)
  below_insert other [] (suc at) below less = (less, tt)
  below_insert other (p ∷ ps) zero below less = (less, below)
  below_insert other (p ∷ ps) (suc at) below less =
      (below.0, below_insert other ps at below.1 less)

  ascend_at : (o : Ordering) (p : List ℕ × A) (ps : List (List ℕ × A)) (later : Option ℕ) (at : ℕ)
      → slice_cmp nat_cmp (encode_utf8_all name) (encode_utf8_all p.0) ≡ o
      → IsBelow (encode_utf8_all p.0) ps → Ascend ps
      → ((place : ℕ) → later ≡ Some place → Ascend (insert ps place (name, value)))
      → match_ordering o (Some 0) None (option_map suc later) ≡ Some at
      → Ascend (insert (p ∷ ps) at (name, value))
  ascend_at Less p ps later zero less below ascend more is =
      ((less, below_later _ (encode_utf8_all p.0) ps less below), (below, ascend))
  ascend_at Less p ps later (suc at) less below ascend more is = absurd (cc)
  ascend_at Equal p ps later at same below ascend more is = absurd (cc)
  ascend_at Greater p ps None at greater below ascend more is = absurd (cc)
  ascend_at Greater p ps (Some place) zero greater below ascend more is = absurd (cc)
  ascend_at Greater p ps (Some place) (suc at) greater below ascend more is =
      let same : place ≡ at = cc in
      let less : slice_cmp nat_cmp (encode_utf8_all p.0) (encode_utf8_all name) ≡ Less =
      nat_list_cmp_total.antisymm (encode_utf8_all p.0) (encode_utf8_all name)
      ∙ ap ordering_reverse greater in
      (below_insert (encode_utf8_all p.0) ps at below less, more at (ap Some same))

  -- a member that goes to its place keeps the order
  pub ascend_with : (ps : List (List ℕ × A)) (at : ℕ) → Ascend ps
      → place_for (encode_utf8_all name) ps ≡ Some at → Ascend (insert ps at (name, value))
  ascend_with [] zero ascend is = (tt, tt)
  ascend_with [] (suc at) ascend is = (tt, tt)
  ascend_with (p ∷ ps) at ascend is =
      ascend_at (slice_cmp nat_cmp (encode_utf8_all name) (encode_utf8_all p.0)) p ps
      (place_for (encode_utf8_all name) ps) at refl ascend.0 ascend.1
      (λ place found. ascend_with ps place ascend.1 found) is
