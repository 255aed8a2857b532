-- Fronts and ends of texts.
use Rattle.std.specs.Prelude.{ℕ, ◌==◌, List, [], ◌∷◌, Option, Some, None, if◌then◌else◌}
use Rattle.std.specs.Option.{option_or}

-- what stands before the first of these characters, or all where there is none
abbrev pub before : ℕ → List ℕ → List ℕ
before mark [] = []
before mark (c ∷ cs) = if c == mark then [] else c ∷ before mark cs

-- what stands behind the last of these characters, if there is one
abbrev pub behind_last : ℕ → List ℕ → Option (List ℕ)
behind_last mark [] = None
behind_last mark (c ∷ cs) = option_or (behind_last mark cs) (if c == mark then Some cs else None)

-- what stands behind this front, if the text begins with it
abbrev pub behind_front : List ℕ → List ℕ → Option (List ℕ)
behind_front [] text = Some text
behind_front (c ∷ cs) [] = None
behind_front (c ∷ cs) (d ∷ ds) = if d == c then behind_front cs ds else None
