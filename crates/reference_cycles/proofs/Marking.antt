-- Marks of the places that a search has reached.
use Rattle.std.proofs.Common.{◌≡◌, ◌<◌, ◌↔◌, ◌≢◌, ◌+◌, ◌⊎◌, inl, inr, ℕ, zero, suc, List, [], ◌∷◌}
use Rattle.std.proofs.Common.{◌++◌, Bool, true, false, length, get_or, set, cond, refl, sym, ap}
use Rattle.std.proofs.Common.{◌∙◌, subst, append_assoc, arith, length-append}
use Rattle.std.specs.Prelude.{IsTrue, Contains, count_by}
use Rattle.std.proofs.lemmas.Bool.{cases_order}
use Rattle.std.proofs.lemmas.List.{get_or-set_same, get_or-set_other, append-nil}
use Rattle.std.proofs.lemmas.List.Elements.{Contains-push, Contains-push_cases}
use Rattle.std.proofs.lemmas.List.Elements.{Contains-append_left, Contains-append_right}
use Rattle.std.proofs.lemmas.List.Elements.{Contains-append_cases}
use Rattle.std.proofs.lemmas.List.Sums.{sum_by-set}
use Rattle.reference_cycles.specs.Reached.{IsMarked, Grows}

same_or_not : (some other : ℕ) → (some ≡ other) ⊎ (some ≢ other)
same_or_not some other =
    elim (cases_order some other) [
      | inl same ↦ inl same
      | inr apart ↦ inr
          (elim apart [ inl lower ↦ (λ same. omega arith) | inr lower ↦ (λ same. omega arith) ])
    ]

module _ (marks : List Bool) (places : List ℕ) (place : ℕ) (marked : IsMarked marks places)
    (within : place < length marks) (new : get_or marks place false ≡ false) where
  same_marks : (other : ℕ) → IsTrue (get_or (set marks place true) other false)
      ↔ Contains (places ++ place ∷ []) other
  same_marks other = elim (same_or_not other place) [
    | inl same ↦ (
      (λ mark. subst (Contains (places ++ place ∷ [])) (sym same) (Contains-push places place)),
      (λ has. ap (λ at. get_or (set marks place true) at false) same
          ∙ get_or-set_same marks place true false within),
    )
    | inr apart ↦ (
      (λ mark. Contains-append_left places (place ∷ []) other
          ((marked.same other).0
          (sym (get_or-set_other marks place other true false apart) ∙ mark))),
      (λ has. get_or-set_other marks place other true false apart
          ∙ elim (Contains-push_cases places place other has) [
            | inl before ↦ (marked.same other).1 before
            | inr same ↦ absurd (apart (sym same))
          ]),
    )
  ]

  -- a place that had no mark is marked
  pub marked_more : IsMarked (set marks place true) (places ++ place ∷ [])
  marked_more = record {
    same = same_marks;
    count =
        let value : Bool → ℕ = λ mark. cond mark 1 0 in
        let counts : count_by (λ mark. mark) (set marks place true)
        + cond (get_or marks place false) 1 0 ≡ count_by (λ mark. mark) marks + 1 =
        sum_by-set value marks place true false within in
        let none : cond (get_or marks place false) 1 0 ≡ 0 = ap value new in
        let had = marked.count in
        omega (arith, length-append {A = ℕ}, counts, none, had);
  }

-- the list of one place has that place alone
one_place : (place other : ℕ) → Contains (place ∷ []) other → place ≡ other
one_place place other has =
    elim (Contains-push_cases [] place other has)
    [ inl none ↦ absurd (omega (arith, none.1)) | inr same ↦ same ]

-- nothing is new where the place is reached, or is none of the places
pub grows_none : (marks : List Bool) (places : List ℕ) (place : ℕ) → IsMarked marks places
    → (place < length marks → IsTrue (get_or marks place false))
    → Grows (length marks) (place ∷ []) places places
grows_none marks places place marked has = record {
  more = [];
  behind = sym (append-nil places);
  only = λ other none. absurd (omega (arith, none.1));
  all = λ other within wanted.
      let same = one_place place other wanted in
      (marked.same other).0
      (ap (λ at. get_or marks at false) (sym same)
      ∙ has (subst (λ at. at < length marks) (sym same) within));
}

module _ (count : ℕ) (some others : List ℕ) (old mid new : List ℕ)
    (before : Grows count some old mid) (behind : Grows count others mid new) where
  kept : (place : ℕ) → Contains mid place → Contains new place
  kept place has =
      subst (λ places. Contains places place) (sym behind.behind)
      (Contains-append_left mid behind.more place has)

  -- first by some places, and then by others
  pub grows_onwards : Grows count (some ++ others) old new
  grows_onwards = record {
    more = before.more ++ behind.more;
    behind =
        behind.behind ∙ ap (λ places. places ++ behind.more) before.behind
        ∙ append_assoc old before.more behind.more;
    only = λ place has. elim (Contains-append_cases before.more behind.more place has) [
      | inl first ↦ Contains-append_left some others place (before.only place first)
      | inr second ↦ Contains-append_right some others place (behind.only place second)
    ];
    all = λ place within wanted. elim (Contains-append_cases some others place wanted) [
      | inl first ↦ kept place (before.all place within first)
      | inr second ↦ behind.all place within second
    ];
  }

-- within a list it is the same which value stands behind its end
pub same_at : {A : Type 0} (items : List A) (at : ℕ) (some other : A) → at < length items
    → get_or items at some ≡ get_or items at other
same_at [] at some other within = absurd (omega arith)
same_at (item ∷ items) zero some other within = refl
same_at (item ∷ items) (suc at) some other within = same_at items at some other (omega arith)
