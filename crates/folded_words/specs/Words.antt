-- Words without their underscores and in lower case, and closed tables of them.
use Rattle.std.specs.Prelude.{◌==◌, ℕ, List, [], ◌∷◌, map, filter, not, Option, Some, None}
use Rattle.std.specs.Prelude.{if◌then◌else◌}
use Rattle.std.specs.Str.{bytes_eq}
use Rattle.std.specs.Char.{to_ascii_lowercase}

-- without its underscores, and with its ASCII letters in lower case
abbrev pub folded : List ℕ → List ℕ
folded text = map to_ascii_lowercase (filter (λ c. not (c == 95)) text)

-- what a word stands for in a table of words: the first that it is
abbrev pub among : {W : Type 0} → List (List ℕ × W) → List ℕ → Option W
among [] word = None
among (pair ∷ pairs) word = if bytes_eq word pair.0 then Some pair.1 else among pairs word
