-- The lines of a text, as bytes.
use Rattle.std.specs.Prelude.{ℕ, ◌==◌, suc, if◌then◌else◌, List, [], ◌∷◌}

-- a character put before the first of these lines
abbrev pub put_before : ℕ → List (List ℕ) → List (List ℕ)
put_before c [] = (c ∷ []) ∷ []
put_before c (l ∷ ls) = (c ∷ l) ∷ ls

-- the lines, each with its line feed, which the last may lack
abbrev pub lines : List ℕ → List (List ℕ)
lines [] = []
lines (c ∷ cs) = if c == 10 then (c ∷ []) ∷ lines cs else put_before c (lines cs)

-- how many characters the first line has
abbrev pub line_len : List ℕ → ℕ
line_len [] = 0
line_len (c ∷ cs) = if c == 10 then 1 else suc (line_len cs)
