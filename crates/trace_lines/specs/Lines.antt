-- The lines of a trace's bytes.
use Rattle.std.specs.Prelude.{◌≡◌, ◌≢◌, ℕ, ◌+◌, nat_lt, ◌==◌, ◌||◌, List, [], ◌∷◌, ◌++◌, length}
use Rattle.std.specs.Prelude.{filter, Bool, true, false, IsTrue, if◌then◌else◌}
use Rattle.std.specs.List.{list_all, slice_split}
use Rattle.trace_lines.specs.declared.lines.TheConstants.{MAX_LINE, MAX_TRACE}

-- a line without its LF, and whether an LF stands behind it
pub record TraceLine : Type 0 where
  pub text : List ℕ
  pub ended : Bool

-- the bytes of a line, and its LF
abbrev pub bytes_of_line : TraceLine → List ℕ
bytes_of_line line = line.text ++ (if line.ended then 10 ∷ [] else [])

-- how many bytes a line has with its LF
abbrev pub size_of : TraceLine → ℕ
size_of line = length (bytes_of_line line)

-- a last line without LF is a line unless it is empty
abbrev pub last_line : List ℕ → List TraceLine
last_line [] = []
last_line (b ∷ bs) = record { text = b ∷ bs; ended = false } ∷ []

-- the lines that the pieces between LFs are: there was an LF behind each piece but the last
abbrev pub lines_in : List (List ℕ) → List TraceLine
lines_in [] = []
lines_in (last ∷ []) = last_line last
lines_in (text ∷ next ∷ pieces) = record { text = text; ended = true } ∷ lines_in (next ∷ pieces)

-- the lines of a trace's bytes
unfoldable pub lines : List ℕ → List TraceLine
lines bytes = lines_in (slice_split (λ b. b == 10) bytes)

-- the lines whose LF is among these bytes
abbrev pub finished : List ℕ → List TraceLine
finished bytes = filter (λ line. line.ended) (lines bytes)

-- an LF stands behind each of these lines
abbrev pub are_ended : List TraceLine → Bool
are_ended ls = list_all (λ line. line.ended) ls

-- an LF stands behind each of these lines but the last, which is not empty where none stands
-- behind it
abbrev pub AllButLastEnded : List TraceLine → Type 0
AllButLastEnded [] = Unit {0}
AllButLastEnded (last ∷ []) = last.ended ≡ false → last.text ≢ []
AllButLastEnded (line ∷ next ∷ others) = IsTrue line.ended × AllButLastEnded (next ∷ others)

-- a line has too many bytes without its LF, or does not end within the bound of a trace, where so
-- many bytes stand before it
abbrev pub is_too_long : ℕ → TraceLine → Bool
is_too_long before line =
    nat_lt MAX_LINE (length line.text) || nat_lt MAX_TRACE (before + size_of line)

-- some of these lines is too long, where so many bytes stand before the first
abbrev pub some_too_long : ℕ → List TraceLine → Bool
some_too_long before [] = false
some_too_long before (line ∷ others) =
    is_too_long before line || some_too_long (before + size_of line) others

-- these bytes show that a line of a trace is too long
abbrev pub shows_too_long : List ℕ → Bool
shows_too_long bytes = some_too_long 0 (lines bytes)
