-- What a text cut into pieces keeps to.
use Rattle.std.specs.Prelude.{◌≡◌, ◌≢◌, ℕ, List, [], ◌∷◌, ◌++◌, All}
use Rattle.std.specs.List.{flat_map}
use Rattle.export_names.specs.Cut.{WrittenPiece, literal, name, written_again}

-- the character stands nowhere twice in a row
pub record NeverTwice (c : ℕ) (text : List ℕ) : Type 0 where
  pub nowhere : (before behind : List ℕ) → text ≢ before ++ c ∷ c ∷ behind

-- no `{{` has a `}}` somewhere behind it
pub record HasNoName (text : List ℕ) : Type 0 where
  pub nowhere : (before word behind : List ℕ)
      → text ≢ before ++ 123 ∷ 123 ∷ (word ++ 125 ∷ 125 ∷ behind)

-- a literal has a character and no name, and a name ends at the first `}}` behind it
abbrev pub IsWhole : WrittenPiece → Type 0
IsWhole (literal characters) = (characters ≢ []) × HasNoName characters
IsWhole (name word) = NeverTwice 125 (word ++ 125 ∷ [])

-- what may stand behind a literal: no literal, but a name, whose `{{` is the first from the literal
-- on
abbrev pub MayFollow : List ℕ → WrittenPiece → Type 0
MayFollow characters (literal other) = ⊥
MayFollow characters (name word) = NeverTwice 123 (characters ++ 123 ∷ [])

-- the pieces give the text back, each is whole, and what stands behind a literal may stand there
pub record IsCut (text : List ℕ) (pieces : List WrittenPiece) : Type 0 where
  pub together : flat_map written_again pieces ≡ text
  pub each : All IsWhole pieces
  pub next : (before behind : List WrittenPiece) (characters : List ℕ) (piece : WrittenPiece)
      → pieces ≡ before ++ literal characters ∷ piece ∷ behind → MayFollow characters piece
