-- The bytes that were read of a trace and not handed out.
use Rattle.std.specs.Prelude.{◌≡◌, ◌+◌, ◌-◌, ◌≤◌, ◌<◌, nat_lt, ◌||◌, ℕ, min, List, [], ◌++◌, length}
use Rattle.std.specs.Prelude.{take, drop, Bool, false, IsTrue, Option, IfSome}
use Rattle.gtm_base.specs.Outside.{followed_by}
use Rattle.memchr.specs.Find.{Nowhere, Passes, is_byte}
use Rattle.trace_lines.specs.Lines.{TraceLine}
use Rattle.trace_lines.specs.Reading.{Position}
use Rattle.trace_lines.specs.declared.lines.TheConstants.{MAX_LINE, MAX_TRACE, PIECE}

-- no LF is among the first bytes of these
abbrev pub HasNoEnd : List ℕ → ℕ → Type 0
HasNoEnd bytes count = Nowhere (Passes (is_byte 10) bytes) 0 count

-- no line was handed out that does not end within the bound of a trace, and no more is held than
-- shows that a line, or the trace, is too long
pub record IsWithin (position : Position) : Type 0 where
  pub before : position.before ≤ MAX_TRACE
  pub line : length position.held ≤ MAX_LINE + 1
  pub trace : position.before + length position.held ≤ MAX_TRACE + 1

-- how many bytes may be asked for: none where those that are held show that a line, or the trace,
-- is too long
abbrev pub room_behind : Position → ℕ
room_behind position =
    let held = length position.held in
    min (min PIECE (MAX_LINE + 1 - held)) (MAX_TRACE + 1 - (position.before + held))

-- the first bytes that are held, as a line that has so many bytes, and so many with its LF
abbrev pub first_line : Position → ℕ → ℕ → TraceLine
first_line position len size = record { text = take len position.held; ended = nat_lt len size }

-- where the reading stands behind that line
abbrev pub behind_line : Position → ℕ → ℕ → Position
behind_line position len size = record position {
  line = first_line position len size;
  held = drop size position.held;
  before = position.before + size;
}

-- so many bytes are too many for a line, or so many for a trace
abbrev pub exceeds : ℕ → ℕ → Bool
exceeds line trace = nat_lt MAX_LINE line || nat_lt MAX_TRACE trace

-- some bytes were read and are held too; there were none exactly where the end of the file was met
pub record HoldsMore (old new : Position) (left later : Option (List ℕ)) : Type 0 where
  pub bytes : List ℕ
  pub held : new.held ≡ old.held ++ bytes
  pub read : left ≡ followed_by bytes later
  pub before : new.before ≡ old.before
  pub end : IsTrue new.at_end → (bytes ≡ []) × IfSome later (λ rest. rest ≡ [])
  pub more : new.at_end ≡ false → 0 < length bytes
