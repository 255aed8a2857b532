-- Where texts stand in a list of texts. Places are counted from 0.
use Rattle.std.specs.Prelude.{◌≡◌, ◌≢◌, ◌<◌, ℕ, suc, min, List, [], ◌∷◌, Option, Some, None}
use Rattle.std.specs.Prelude.{option_map, if◌then◌else◌, slice_get}
use Rattle.std.specs.Str.{bytes_eq}

-- the first place that has the text: this one has it, and none before it does
pub record IsFirstPlace (texts : List (List ℕ)) (text : List ℕ) (at : ℕ) : Type 0 where
  pub here : slice_get texts at ≡ Some text
  pub first : (place : ℕ) → place < at → slice_get texts place ≢ Some text

-- no place has the text
pub record Lacks (texts : List (List ℕ)) (text : List ℕ) : Type 0 where
  pub nowhere : (place : ℕ) → slice_get texts place ≢ Some text

-- the text at this place stands at an earlier place too
pub record IsRepeat (texts : List (List ℕ)) (at : ℕ) : Type 0 where
  pub text : List ℕ
  pub earlier : ℕ
  pub before : earlier < at
  pub here : slice_get texts at ≡ Some text
  pub there : slice_get texts earlier ≡ Some text

-- the first place whose text stands at an earlier place too
pub record IsFirstRepeat (texts : List (List ℕ)) (at : ℕ) : Type 0 where
  pub repeated : IsRepeat texts at
  pub first : (place : ℕ) → place < at → ¬ (IsRepeat texts place)

-- no two different places have the same text
pub record AllDifferent (texts : List (List ℕ)) : Type 0 where
  pub one_place : (some other : ℕ) (text : List ℕ) → slice_get texts some ≡ Some text
      → slice_get texts other ≡ Some text → some ≡ other

-- the first place that has the text, or none where no place has it
abbrev pub place_of : List ℕ → List (List ℕ) → Option ℕ
place_of text [] = None
place_of text (first ∷ texts) =
    if bytes_eq first text then Some 0 else option_map suc (place_of text texts)

-- the lower of two places, where there are two
abbrev pub lower_place : Option ℕ → Option ℕ → Option ℕ
lower_place None other = other
lower_place (Some at) None = Some at
lower_place (Some at) (Some other) = Some (min at other)

-- the first place whose text stands at an earlier place too, or none where all texts differ: the
-- first text's next place, or the first repeat behind it
abbrev pub first_repeat : List (List ℕ) → Option ℕ
first_repeat [] = None
first_repeat (text ∷ texts) =
    option_map suc (lower_place (place_of text texts) (first_repeat texts))
