-- Which lines are headings.
use Rattle.std.specs.Prelude.{◌≡◌, ◌≢◌, ℕ, ◌-◌, ◌==◌, nat_lt, ◌&&◌, ◌||◌, if◌then◌else◌, List, []}
use Rattle.std.specs.Prelude.{◌∷◌, ◌++◌, length, take, drop, Bool, true, Option, Some, None}
use Rattle.std.specs.Char.{is_ascii_uppercase, is_ascii_digit}
use Rattle.std.specs.List.{list_all, prefix_len}
use Rattle.std.specs.Str.{bytes_eq}

-- `A` to `Z`, a digit or `_`
abbrev pub is_name_char : ℕ → Bool
is_name_char c = (is_ascii_uppercase c || is_ascii_digit c) || c == 95

-- the end of a line: a line feed, with or without a carriage return before it, or the text's end
abbrev pub is_end : List ℕ → Bool
is_end end = (bytes_eq end [] || bytes_eq end (10 ∷ [])) || bytes_eq end (13 ∷ 10 ∷ [])

abbrev pub frame : List ℕ
frame = 95 ∷ 95 ∷ 95 ∷ []

-- a heading: a name of at least one character between three underscores and three
pub record IsHeading (line name : List ℕ) : Type 0 where
  pub end : List ℕ
  pub split : line ≡ frame ++ (name ++ (frame ++ end))
  pub some : name ≢ []
  pub chars : list_all is_name_char name ≡ true
  pub ends : is_end end ≡ true

-- what stands between three underscores and three
abbrev pub name_within : List ℕ → Option (List ℕ)
name_within word =
    let rest = drop 3 word in
    if nat_lt 6 (length word) then
    (if bytes_eq (take 3 word) frame && bytes_eq (drop (length rest - 3) rest) frame
    then Some (take (length rest - 3) rest) else None)
    else None

-- the name in a line that is a heading
abbrev pub heading_name : List ℕ → Option (List ℕ)
heading_name line =
    let len = prefix_len is_name_char line in
    if is_end (drop len line) then name_within (take len line) else None
