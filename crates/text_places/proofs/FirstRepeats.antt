-- The function `first_repeat` gives the first place whose text stands at an earlier place, and
-- nothing else is that place.
use Rattle.std.proofs.Common.{◌≡◌, ◌↔◌, ◌<◌, ◌⊎◌, inl, inr, ℕ, zero, suc, ◌+◌, List, [], ◌∷◌}
use Rattle.std.proofs.Common.{length, refl, sym, ap, subst, ◌∙◌, arith, slice_get}
use Rattle.std.specs.Prelude.{Option, Some, None, MatchOption, min, option_map}
use Rattle.std.proofs.lemmas.Bool.{cases_order}
use Rattle.std.proofs.lemmas.Option.{slice_get_within}
use Rattle.text_places.specs.Places.{place_of, lower_place, first_repeat, IsRepeat, IsFirstRepeat}
use Rattle.text_places.specs.Places.{AllDifferent}
use Rattle.text_places.proofs.FirstPlaces.{place_of_answers}
use Rattle.text_places.proofs.FirstPlaces as places
use Rattle.text_places.proofs.Orders.{neither_lower, min_is_one}

-- an answer to which place is the first repeat
abbrev pub Answers : List (List ℕ) → Option ℕ → Type 0
Answers texts answer = MatchOption answer (AllDifferent texts) (IsFirstRepeat texts)

-- where all texts differ there is no repeat
no_repeat : (texts : List (List ℕ)) (at : ℕ) → AllDifferent texts → IsRepeat texts at → ⊥
no_repeat texts at differ repeat =
    let same : at ≡ repeat.earlier =
    differ.one_place at repeat.earlier repeat.text repeat.here repeat.there in
    let lower : repeat.earlier < at = repeat.before in
    absurd (omega arith)

-- where there is no repeat all texts differ
pub all_different : (texts : List (List ℕ))
    → ((place : ℕ) → place < length texts → IsRepeat texts place → ⊥) → AllDifferent texts
all_different texts none = record {
  one_place = λ some other text here there.
      neither_lower some other
      (λ lower. none other (slice_get_within texts other text there)
      (record { text = text; earlier = some; before = lower; here = there; there = here }))
      (λ lower. none some (slice_get_within texts some text here)
      (record { text = text; earlier = other; before = lower; here = here; there = there }));
}

module _ (text : List ℕ) (texts : List (List ℕ)) where
  -- a repeat stays one behind one text more
  repeat_on : (at : ℕ) → IsRepeat texts at → IsRepeat (text ∷ texts) (suc at)
  repeat_on at repeat =
      let lower : repeat.earlier < at = repeat.before in
      record {
        text =
            repeat.text;
        earlier =
            suc repeat.earlier;
        before = omega arith;
        here = repeat.here;
        there = repeat.there;
      }

  -- a place of the first text is a repeat
  repeat_first : (at : ℕ) → slice_get texts at ≡ Some text → IsRepeat (text ∷ texts) (suc at)
  repeat_first at is =
      record { text = text; earlier = 0; before = omega arith; here = is; there = refl }

  -- a repeat behind the first text has that text, or is one among the others
  by_earlier : (at earlier : ℕ) (repeated : List ℕ) → earlier < suc at
      → slice_get texts at ≡ Some repeated → slice_get (text ∷ texts) earlier ≡ Some repeated
      → (slice_get texts at ≡ Some text) ⊎ IsRepeat texts at
  by_earlier at zero repeated lower here there = inl (here ∙ sym there)
  by_earlier at (suc earlier) repeated lower here there =
      inr (record {
        text =
            repeated;
        earlier = earlier;
        before = omega arith;
        here = here;
        there = there;
      })

  -- where below a place none of the others has the first text or is a repeat, none is a repeat
  -- behind the first text
  none_below : (least place : ℕ) → ((at : ℕ) → at < least → slice_get texts at ≡ Some text → ⊥)
      → ((at : ℕ) → at < least → IsRepeat texts at → ⊥)
      → place < suc least → IsRepeat (text ∷ texts) place → ⊥
  none_below least zero not_first not_other lower repeat =
      let none : repeat.earlier < 0 = repeat.before in absurd (omega arith)
  none_below least (suc at) not_first not_other lower repeat =
      elim (by_earlier at repeat.earlier repeat.text repeat.before repeat.here repeat.there) [
        | inl is ↦ not_first at (omega arith) is
        | inr other ↦ not_other at (omega arith) other
      ]

  one_more : (place repeat : Option ℕ) → places.Answers texts text place → Answers texts repeat
      → Answers (text ∷ texts) (option_map suc (lower_place place repeat))
  one_more None None place_is repeat_is =
      all_different (text ∷ texts)
      (λ place within.
      none_below (length texts) place (λ at _. place_is.nowhere at)
      (λ at _. no_repeat texts at repeat_is) within)
  one_more None (Some at) place_is repeat_is = record {
    repeated = repeat_on at repeat_is.repeated;
    first = λ place. none_below at place (λ other _. place_is.nowhere other) repeat_is.first;
  }
  one_more (Some at) None place_is repeat_is = record {
    repeated = repeat_first at place_is.here;
    first =
        λ place. none_below at place place_is.first (λ other _. no_repeat texts other repeat_is);
  }
  one_more (Some at) (Some other) place_is repeat_is = record {
    repeated =
        elim (min_is_one at other) [
          | inl is ↦ subst (λ least. IsRepeat (text ∷ texts) (suc least)) (sym is)
              (repeat_first at place_is.here)
          | inr is ↦ subst (λ least. IsRepeat (text ∷ texts) (suc least)) (sym is)
              (repeat_on other repeat_is.repeated)
        ];
    first =
        λ place. none_below (min at other) place (λ p lower. place_is.first p (omega arith))
        (λ p lower. repeat_is.first p (omega arith));
  }

-- the function answers which place is the first repeat
pub first_repeat_answers : (texts : List (List ℕ)) → Answers texts (first_repeat texts)
first_repeat_answers [] = record { one_place = λ some other text here there. absurd (cc) }
first_repeat_answers (text ∷ texts) =
    one_more text texts (place_of text texts) (first_repeat texts) (place_of_answers text texts)
    (first_repeat_answers texts)

-- there is one answer
pub one_answer : (texts : List (List ℕ)) (some other : Option ℕ) → Answers texts some
    → Answers texts other → some ≡ other
one_answer texts None None some_is other_is = refl
one_answer texts None (Some at) some_is other_is =
    absurd (no_repeat texts at some_is other_is.repeated)
one_answer texts (Some at) None some_is other_is =
    absurd (no_repeat texts at other_is some_is.repeated)
one_answer texts (Some at) (Some place) some_is other_is =
    ap Some (neither_lower at place (λ lower. other_is.first at lower some_is.repeated)
    (λ lower. some_is.first place lower other_is.repeated))

-- exactly the first place whose text stood before is the first repeat
pub some_repeat : (texts : List (List ℕ)) (at : ℕ) → (first_repeat texts ≡ Some at)
    ↔ IsFirstRepeat texts at
some_repeat texts at = (
  (λ is. let answer : Answers texts (Some at) =
      subst (Answers texts) is (first_repeat_answers texts) in answer),
  one_answer texts (first_repeat texts) (Some at) (first_repeat_answers texts),
)

-- exactly where all texts differ there is no repeat
pub none_repeats : (texts : List (List ℕ)) → (first_repeat texts ≡ None) ↔ AllDifferent texts
none_repeats texts = (
  (λ is. let answer : Answers texts None = subst (Answers texts) is (first_repeat_answers texts) in
      answer),
  one_answer texts (first_repeat texts) None (first_repeat_answers texts),
)

-- where no place before this one is a repeat, none is before the next unless this one is
pub none_yet : (texts : List (List ℕ)) (at : ℕ)
    → ((place : ℕ) → place < at → IsRepeat texts place → ⊥) → (IsRepeat texts at → ⊥) → (place : ℕ)
    → place < at + 1 → IsRepeat texts place → ⊥
none_yet texts at before here place lower repeat =
    elim (cases_order place at) [
      | inl same ↦ here (subst (IsRepeat texts) same repeat)
      | inr apart ↦ elim apart
          [ inl below ↦ before place below repeat | inr above ↦ absurd (omega arith) ]
    ]
