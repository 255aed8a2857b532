-- Texts that are told each once.
use Rattle.std.proofs.Common.{◌≡◌, ◌<◌, ◌≤◌, ◌+◌, ◌-◌, ◌⊎◌, inl, inr, ℕ, zero, suc, List, [], ◌∷◌}
use Rattle.std.proofs.Common.{Bool, true, false, refl, ap, ◌∙◌, sym, subst, arith}
use Rattle.std.specs.Prelude.{Option, Some, None, if◌then◌else◌, slice_get, nat_eq}
use Rattle.std.proofs.lemmas.Bool.{eqb-true, cases_order}
use Rattle.std.proofs.Math.Dec.{eqb-suc-suc}
use Rattle.text_places.proofs.FirstPlaces.{some_place, no_place}
use Rattle.text_places.specs.Places.{place_of, AllDifferent, IsFirstPlace}
use Rattle.export_container.specs.References.{is_place, firsts_from, each_once, IsEachOnce}

some_same : {A : Type 0} {x y : A} → Some x ≡ Some y → x ≡ y
some_same is = cc

none_some : {A : Type 0} {x : A} → None ≡ Some x → ⊥
none_some is = cc

-- a place that is the first of a text
its_place : (place : ℕ) (found : Option ℕ) → is_place place found ≡ true → found ≡ Some place
its_place place None is = absurd (cc)
its_place place (Some at) is = ap Some (eqb-true at place is)

is_itself : (n : ℕ) → nat_eq n n ≡ true
is_itself zero = refl
is_itself (suc n) = eqb-suc-suc n n ∙ is_itself n

first_here : (place : ℕ) (found : Option ℕ) → found ≡ Some place → is_place place found ≡ true
first_here place found is = ap (is_place place) is ∙ is_itself place

module _ (all : List (List ℕ)) where
  -- the first place of a text is this one or one behind it
  abbrev FirstFrom : ℕ → List ℕ → Type 0
  FirstFrom place text = (first : ℕ) × (place_of text all ≡ Some first) × (place ≤ first)

  from_by : (place : ℕ) (text : List ℕ) (rest : List (List ℕ)) (test : Bool)
      → is_place place (place_of text all) ≡ test
      → ((at : ℕ) (t : List ℕ) → slice_get (firsts_from all (suc place) rest) at ≡ Some t
      → FirstFrom (suc place) t)
      → (at : ℕ) (t : List ℕ)
      → slice_get
      (if test then text ∷ firsts_from all (suc place) rest
      else firsts_from all (suc place) rest)
      at ≡ Some t
      → FirstFrom place t
  from_by place text rest true is later zero t here = (
    place,
    subst (λ w. place_of w all ≡ Some place) (some_same here)
        (its_place place (place_of text all) is),
    omega arith,
  )
  from_by place text rest true is later (suc n) t here =
      let found = later n t here in (found.0, found.1, omega (arith, found.2))
  from_by place text rest false is later n t here =
      let found = later n t here in (found.0, found.1, omega (arith, found.2))

  -- what is told from a place on stands first there or behind it
  told_from : (place : ℕ) (rest : List (List ℕ)) (at : ℕ) (t : List ℕ)
      → slice_get (firsts_from all place rest) at ≡ Some t → FirstFrom place t
  told_from place [] at t here = absurd (none_some here)
  told_from place (text ∷ rest) at t here =
      from_by place text rest (is_place place (place_of text all)) refl (told_from (suc place) rest)
      at t here

  -- what is told from a place on is told in the order of first places
  abbrev Rises : List (List ℕ) → Type 0
  Rises told =
      (some other : ℕ) (a b : List ℕ) (p q : ℕ) → some < other → slice_get told some ≡ Some a
      → slice_get told other ≡ Some b → place_of a all ≡ Some p → place_of b all ≡ Some q → p < q

  rises_by : (place : ℕ) (text : List ℕ) (rest : List (List ℕ)) (test : Bool)
      → is_place place (place_of text all) ≡ test → Rises (firsts_from all (suc place) rest)
      → Rises
      (if test then text ∷ firsts_from all (suc place) rest else firsts_from all (suc place) rest)
  rises_by place text rest true is later zero zero a b p q lower first second is_p is_q =
      absurd (omega arith)
  rises_by place text rest true is later zero (suc n) a b p q lower first second is_p is_q =
      let found = told_from (suc place) rest n b second in
      let one : Some p ≡ Some place =
      sym is_p ∙ subst (λ w. place_of w all ≡ Some place) (some_same first)
      (its_place place (place_of text all) is) in
      let same : p ≡ place = some_same one in
      let its : q ≡ found.0 = some_same (sym is_q ∙ found.1) in
      omega (arith, found.2)
  rises_by place text rest true is later (suc m) zero a b p q lower first second is_p is_q =
      absurd (omega arith)
  rises_by place text rest true is later (suc m) (suc n) a b p q lower first second is_p is_q =
      later m n a b p q (omega arith) first second is_p is_q
  rises_by place text rest false is later m n a b p q lower first second is_p is_q =
      later m n a b p q lower first second is_p is_q

  rises : (place : ℕ) (rest : List (List ℕ)) → Rises (firsts_from all place rest)
  rises place [] some other a b p q lower first second is_p is_q = absurd (none_some first)
  rises place (text ∷ rest) some other a b p q lower first second is_p is_q =
      rises_by place text rest (is_place place (place_of text all)) refl (rises (suc place) rest)
      some other a b p q lower first second is_p is_q

  -- a text is among those told
  abbrev IsTold : List (List ℕ) → List ℕ → Type 0
  IsTold told t = (at : ℕ) × (slice_get told at ≡ Some t)

  later_told : (text : List ℕ) (later : List (List ℕ)) (test : Bool) (t : List ℕ)
      → IsTold later t → IsTold (if test then text ∷ later else later) t
  later_told text later true t (at, here) = (suc at, here)
  later_told text later false t (at, here) = (at, here)

  here_told : (text : List ℕ) (later : List (List ℕ)) (test : Bool) (t : List ℕ)
      → test ≡ true → text ≡ t → IsTold (if test then text ∷ later else later) t
  here_told text later true t is same = (0, ap Some same)
  here_told text later false t is same = absurd (cc is)

  -- a text whose first place is one of the rest is told
  is_told : (place : ℕ) (rest : List (List ℕ))
      → ((n : ℕ) → slice_get rest n ≡ slice_get all (place + n)) → (t : List ℕ) (p : ℕ)
      → place_of t all ≡ Some p → place ≤ p → slice_get all p ≡ Some t
      → IsTold (firsts_from all place rest) t
  is_told place [] same t p first lower stands =
      let at : place + (p - place) ≡ p = omega arith in
      absurd (none_some (same (p - place) ∙ ap (slice_get all) at ∙ stands))
  is_told place (text ∷ rest) same t p first lower stands =
      elim (cases_order place p) [
        | inl at ↦ here_told text (firsts_from all (suc place) rest)
            (is_place place (place_of text all)) t
            (first_here place (place_of text all)
            (ap (λ w. place_of w all) (its at) ∙ first ∙ ap Some (sym at)))
            (its at)
        | inr apart ↦ later_told text (firsts_from all (suc place) rest)
            (is_place place (place_of text all)) t
            (is_told (suc place) rest later t p first (behind apart) stands)
      ]
    where
      its : place ≡ p → text ≡ t
      its at =
          let sum : place + 0 ≡ p = omega arith in
          some_same (same 0 ∙ ap (slice_get all) sum ∙ stands)

      later : (n : ℕ) → slice_get rest n ≡ slice_get all (suc place + n)
      later n =
          let sum : place + suc n ≡ suc place + n = omega arith in
          same (suc n) ∙ ap (slice_get all) sum

      behind : (place < p) ⊎ (p < place) → suc place ≤ p
      behind (inl before) = omega (arith, before)
      behind (inr after) = absurd (omega (arith, after))

  -- a text of the list has a first place
  first_of : (place : ℕ) (text : List ℕ) (found : Option ℕ) → place_of text all ≡ found
      → slice_get all place ≡ Some text → (p : ℕ) × (place_of text all ≡ Some p)
  first_of place text None is stands =
      let lacks = (no_place text all).0 is in absurd (lacks.nowhere place stands)
  first_of place text (Some p) is stands = (p, is)

-- texts told each once are those of the list, none twice, in the order of their first places
pub told_once : (texts : List (List ℕ)) → IsEachOnce texts (each_once texts)
told_once texts = record {
  different = record { one_place = one_place };
  stands = λ at text here.
      let found = told_from texts 0 texts at text here in
      (found.0, ((some_place text texts found.0).0 found.1).here);
  is_told = λ place text stands.
      let first = first_of texts place text (place_of text texts) refl stands in
      is_told texts 0 texts from_start text first.0 first.1 (omega arith)
      ((some_place text texts first.0).0 first.1).here;
  in_order = λ some other text later lower here there first second is_first is_second.
      rises texts 0 texts some other text later first second lower here there
      ((some_place text texts first).1 is_first) ((some_place later texts second).1 is_second);
}
  where
    from_start : (n : ℕ) → slice_get texts n ≡ slice_get texts (0 + n)
    from_start n = let sum : n ≡ 0 + n = omega arith in ap (slice_get texts) sum

    never : (some other : ℕ) (text : List ℕ) → some < other
        → slice_get (each_once texts) some ≡ Some text
        → slice_get (each_once texts) other ≡ Some text → ⊥
    never some other text lower here there =
        let found = told_from texts 0 texts some text here in
        let less : found.0 < found.0 =
        rises texts 0 texts some other text text found.0 found.0 lower here there found.1 found.1 in
        omega (arith, less)

    one_place : (some other : ℕ) (text : List ℕ) → slice_get (each_once texts) some ≡ Some text
        → slice_get (each_once texts) other ≡ Some text → some ≡ other
    one_place some other text here there =
        elim (cases_order some other) [
          | inl same ↦ same
          | inr apart ↦ elim apart [
            | inl lower ↦ absurd (never some other text lower here there)
            | inr lower ↦ absurd (never other some text lower there here)
          ]
        ]
