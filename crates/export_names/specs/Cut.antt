-- A text cut into names in double braces and what stands around them.
use Rattle.std.specs.Prelude.{ℕ, zero, suc, List, [], ◌∷◌, ◌++◌, length, drop, Option, Some, None}
use Rattle.std.specs.Prelude.{option_map, option_and_then, ◌==◌, ◌&&◌, Bool, false, if◌then◌else◌}
use Rattle.std.specs.Option.{option_map_or}

-- a piece as it is written: characters that stand for themselves, or a name without its braces
pub data WrittenPiece : Type 0 where
  literal : List ℕ → WrittenPiece
  name : List ℕ → WrittenPiece

-- what a piece is in a text: a name stands between `{{` and `}}`
abbrev pub written_again : WrittenPiece → List ℕ
written_again (literal characters) = characters
written_again (name word) = 123 ∷ 123 ∷ (word ++ 125 ∷ 125 ∷ [])

-- whether a text begins with this character
abbrev pub begins_with : ℕ → List ℕ → Bool
begins_with c [] = false
begins_with c (d ∷ rest) = d == c

-- what stands before the first place that has this character twice, and what stands behind it
abbrev pub around_twice : ℕ → List ℕ → Option (List ℕ × List ℕ)
around_twice c [] = None
around_twice c (d ∷ rest) =
    if d == c && begins_with c rest then Some ([], drop 1 rest)
    else option_map (λ parts. (d ∷ parts.0, parts.1)) (around_twice c rest)

-- what stands before the first `{{`, the name from there to the next `}}`, and what stands behind
-- that
unfoldable pub first_name : List ℕ → Option (List ℕ × List ℕ × List ℕ)
first_name text =
    option_and_then
    (λ opened.
    option_map (λ closed. (opened.0, closed.0, closed.1))
    (around_twice 125 opened.1)) (around_twice 123 text)

-- the literal that a text is, or no piece where it is empty
abbrev pub literal_of : List ℕ → List WrittenPiece
literal_of [] = []
literal_of (c ∷ cs) = literal (c ∷ cs) ∷ []

-- the pieces of a text in which so many names at most are looked for
unfoldable pub cut_within : ℕ → List ℕ → List WrittenPiece
cut_within zero text = literal_of text
cut_within (suc names) text =
    option_map_or (λ found. literal_of found.0 ++ name found.1 ∷ cut_within names found.2)
    (first_name text) (literal_of text)

-- the pieces of a text, in order
unfoldable pub cut : List ℕ → List WrittenPiece
cut text = cut_within (length text) text
