-- The function `place_of` gives the first place that has the text, and nothing else is that place.
use Rattle.std.proofs.Common.{◌≡◌, ◌↔◌, ◌<◌, ℕ, zero, suc, List, [], ◌∷◌, Bool, true, false}
use Rattle.std.proofs.Common.{true≢false, refl, sym, ap, ◌∙◌, arith, subst, slice_get}
use Rattle.std.specs.Prelude.{Option, Some, None, MatchOption, option_map, if◌then◌else◌}
use Rattle.std.specs.Str.{bytes_eq}
use Rattle.std.proofs.lemmas.Slice.Eq.{bytes_eq-Decides}
use Rattle.text_places.specs.Places.{place_of, IsFirstPlace, Lacks}
use Rattle.text_places.proofs.Orders.{neither_lower}

some_same : {A : Type 0} {x y : A} → Some x ≡ Some y → x ≡ y
some_same is = cc

-- an answer to where the text stands first
abbrev pub Answers : List (List ℕ) → List ℕ → Option ℕ → Type 0
Answers texts text answer = MatchOption answer (Lacks texts text) (IsFirstPlace texts text)

module _ (text : List ℕ) where
  lacked_front : (first : List ℕ) (texts : List (List ℕ)) → bytes_eq first text ≡ false
      → Lacks texts text → (place : ℕ) → slice_get (first ∷ texts) place ≡ Some text → ⊥
  lacked_front first texts other lacks zero is =
      true≢false (sym ((bytes_eq-Decides first text).1 (some_same is)) ∙ other)
  lacked_front first texts other lacks (suc place) is = lacks.nowhere place is

  later_front : (first : List ℕ) (texts : List (List ℕ)) (at : ℕ) → bytes_eq first text ≡ false
      → IsFirstPlace texts text at → (place : ℕ) → place < suc at
      → slice_get (first ∷ texts) place ≡ Some text → ⊥
  later_front first texts at other found zero lower is =
      true≢false (sym ((bytes_eq-Decides first text).1 (some_same is)) ∙ other)
  later_front first texts at other found (suc place) lower is = found.first place (omega arith) is

  one_more : (test : Bool) (first : List ℕ) (texts : List (List ℕ)) (later : Option ℕ)
      → bytes_eq first text ≡ test → Answers texts text later
      → Answers (first ∷ texts) text (if test then Some 0 else option_map suc later)
  one_more true first texts later test answer = record {
    here = ap Some ((bytes_eq-Decides first text).0 test);
    first = λ place lower is. absurd (omega arith);
  }
  one_more false first texts None test answer =
      record { nowhere = lacked_front first texts test answer }
  one_more false first texts (Some at) test answer =
      record { here = answer.here; first = later_front first texts at test answer }

  -- the function answers where the text stands first
  pub place_of_answers : (texts : List (List ℕ)) → Answers texts text (place_of text texts)
  place_of_answers [] = record { nowhere = λ place is. absurd (cc) }
  place_of_answers (first ∷ texts) =
      one_more (bytes_eq first text) first texts (place_of text texts) refl (place_of_answers texts)

  -- there is one answer
  pub one_place : (texts : List (List ℕ)) (some other : Option ℕ) → Answers texts text some
      → Answers texts text other → some ≡ other
  one_place texts None None some_is other_is = refl
  one_place texts None (Some at) some_is other_is = absurd (some_is.nowhere at other_is.here)
  one_place texts (Some at) None some_is other_is = absurd (other_is.nowhere at some_is.here)
  one_place texts (Some at) (Some place) some_is other_is =
      ap Some (neither_lower at place (λ lower. other_is.first at lower some_is.here)
      (λ lower. some_is.first place lower other_is.here))

  -- exactly the first place that has the text is its place
  pub some_place : (texts : List (List ℕ)) (at : ℕ) → (place_of text texts ≡ Some at)
      ↔ IsFirstPlace texts text at
  some_place texts at = (
    (λ is. let answer : Answers texts text (Some at) =
        subst (Answers texts text) is (place_of_answers texts) in answer),
    one_place texts (place_of text texts) (Some at) (place_of_answers texts),
  )

  -- exactly a text that no place has has no place
  pub no_place : (texts : List (List ℕ)) → (place_of text texts ≡ None) ↔ Lacks texts text
  no_place texts = (
    (λ is. let answer : Answers texts text None =
        subst (Answers texts text) is (place_of_answers texts) in answer),
    one_place texts (place_of text texts) None (place_of_answers texts),
  )
