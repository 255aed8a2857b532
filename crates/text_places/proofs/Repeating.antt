-- Whether the text at a place stood before, by its place among the texts before it.
use Rattle.std.proofs.Common.{◌≡◌, ◌<◌, ℕ, List, take, true, false, is_some, sym, subst, ◌∙◌}
use Rattle.std.proofs.Common.{slice_get, refl}
use Rattle.std.specs.Prelude.{Option, Some, None}
use Rattle.std.proofs.lemmas.Option.{slice_get_within}
use Rattle.text_places.specs.Places.{place_of, IsRepeat}
use Rattle.text_places.proofs.FirstPlaces.{some_place, no_place}
use Rattle.text_places.proofs.Indexing.{none_of}
use Rattle.text_places.proofs.ListPlaces.{slice_get-take, length-take_before}

module _ (texts : List (List ℕ)) (at : ℕ) (text : List ℕ) where
  repeat_of : (place : Option ℕ) → place_of text (take at texts) ≡ place
      → slice_get texts at ≡ Some text → is_some place ≡ true → IsRepeat texts at
  repeat_of None is here known = absurd (cc)
  repeat_of (Some earlier) is here known =
      let found = (some_place text (take at texts) earlier).0 is in
      let within = slice_get_within (take at texts) earlier text found.here in
      let before : earlier < at =
      subst (λ count. earlier < count) (length-take_before texts at text here) within in
      record {
        text =
            text;
        earlier =
            earlier;
        before =
            before;
        here = here;
        there = sym (slice_get-take texts at earlier before) ∙ found.here;
      }

  -- a text with a place among those before it is a repeat
  pub is_repeat : slice_get texts at ≡ Some text → is_some (place_of text (take at texts)) ≡ true
      → IsRepeat texts at
  is_repeat here known = repeat_of (place_of text (take at texts)) refl here known

  -- a text with no place among those before it is no repeat
  pub is_no_repeat : slice_get texts at ≡ Some text
      → is_some (place_of text (take at texts)) ≡ false → IsRepeat texts at → ⊥
  is_no_repeat here unknown repeat =
      let lacks =
      (no_place text (take at texts)).0 (none_of (place_of text (take at texts)) unknown) in
      lacks.nowhere repeat.earlier
      (slice_get-take texts at repeat.earlier repeat.before ∙ repeat.there ∙ sym repeat.here
      ∙ here)
