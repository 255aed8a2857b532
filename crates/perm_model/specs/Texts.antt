-- Texts that are set against patterns.
use Rattle.std.specs.Prelude.{ℕ, ◌==◌, ◌&&◌, if◌then◌else◌, List, [], ◌∷◌, ◌++◌, drop}
use Rattle.std.specs.Prelude.{Bool, true, false}
use Rattle.std.specs.List.{list_any}
use Rattle.std.specs.Str.{bytes_eq}

-- the text has no character
abbrev pub is_nothing : List ℕ → Bool
is_nothing [] = true
is_nothing (c ∷ cs) = false

-- the text, and what is left of it behind each run of characters at its front
abbrev pub ends_of : List ℕ → List (List ℕ)
ends_of [] = [] ∷ []
ends_of (c ∷ cs) = (c ∷ cs) ∷ ends_of cs

-- this character stands first, and what is behind it passes
abbrev pub first_and : ℕ → (List ℕ → Bool) → List ℕ → Bool
first_and c passes [] = false
first_and c passes (d ∷ ds) = c == d && passes ds

-- the text is the pattern with some run of characters, or none, in place of each `*`
abbrev pub fits : List ℕ → List ℕ → Bool
fits [] text = is_nothing text
fits (c ∷ cs) text =
    if c == 42 then list_any (fits cs) (ends_of text) else first_and c (fits cs) text

-- the same said with the runs: in place of each `*` stands the next of them
abbrev pub filled : List ℕ → List (List ℕ) → List ℕ
filled [] runs = []
filled (c ∷ cs) [] = if c == 42 then filled cs [] else c ∷ filled cs []
filled (c ∷ cs) (run ∷ runs) =
    if c == 42 then run ++ filled cs runs else c ∷ filled cs (run ∷ runs)

-- the text ends in these characters, with something before them
abbrev pub ends_behind_some : List ℕ → List ℕ → Bool
ends_behind_some end text = list_any (bytes_eq end) (ends_of (drop 1 text))
