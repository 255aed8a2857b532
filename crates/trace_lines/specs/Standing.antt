-- How far the bytes of a trace were read and handed out.
use Rattle.std.specs.Prelude.{◌≡◌, ◌⊎◌, ◌-◌, ℕ, List, [], ◌∷◌, ◌++◌, length, take, Bool, true}
use Rattle.std.specs.Prelude.{false, IsTrue, Result, Ok, Err}
use Rattle.std.specs.List.{flat_map}
use Rattle.trace_lines.specs.Lines.{TraceLine, are_ended, bytes_of_line, finished, lines}
use Rattle.trace_lines.specs.Lines.{shows_too_long, some_too_long}
use Rattle.trace_lines.specs.Reading.{HasTooLong, Position}
use Rattle.trace_lines.specs.declared.lines.LineEnd.{LineEnd}
use Rattle.trace_lines.specs.declared.lines.LineEnd.TheVariants.{OutOfMemory, ReadFault, TooLong}

-- all was handed out
pub record IsDone (position : Position) : Type 0 where
  pub at_end : IsTrue position.at_end
  pub held : position.held ≡ []

-- the reading of these bytes stands here: these lines were handed out, and these bytes are left of
-- the file
pub record StandsAt (bytes : List ℕ) (handed : List TraceLine) (position : Position)
    (left : List ℕ) : Type 0 where
  -- the bytes are those of these lines, then those that are held, and then those that are left
  pub whole : bytes ≡ flat_map bytes_of_line handed ++ (position.held ++ left)
  -- their lines are these, and then those of the other bytes
  pub lines_are : lines bytes ≡ handed ++ lines (position.held ++ left)
  -- the bytes of these lines are counted
  pub before : position.before ≡ length (flat_map bytes_of_line handed)
  -- none of these lines is too long
  pub fit : some_too_long 0 handed ≡ false
  -- an LF stands behind each of these lines, or all was handed out
  pub ended : IsTrue (are_ended handed) ⊎ IsDone position
  -- once the end was met nothing is left
  pub end : IsTrue position.at_end → left ≡ []

-- all lines were handed out
pub record HandedAll (bytes : List ℕ) (handed : List TraceLine) (position : Position)
    (left : List ℕ) : Type 0 where
  pub stands : StandsAt bytes handed position left
  pub all : lines bytes ≡ handed
  pub held : position.held ≡ []
  pub none : left ≡ []

-- all lines were handed out whose LF was read
pub record HandedFinished (bytes : List ℕ) (handed : List TraceLine) (position : Position)
    (left : List ℕ) : Type 0 where
  pub stands : StandsAt bytes handed position left
  pub all : (read : List ℕ) → bytes ≡ read ++ left → finished read ≡ handed

-- all lines were handed out before the first that is too long
pub record HandedFitting (bytes : List ℕ) (handed : List TraceLine) (position : Position)
    (left : List ℕ) : Type 0 where
  pub stands : StandsAt bytes handed position left
  pub next : HasTooLong position.before (position.held ++ left)

-- of these bytes all but those left were read, and without the last byte that was read they do not
-- show that a line is too long
pub record StopsInTime (bytes left : List ℕ) : Type 0 where
  pub unshown : (read : List ℕ) → bytes ≡ read ++ left
      → shows_too_long (take (length read - 1) read) ≡ false

-- where a call leaves a reading that had handed these lines out
abbrev pub StandsAfter : (result : Result Bool LineEnd) (bytes : List ℕ) (handed : List TraceLine)
    (new : Position) (left : List ℕ) → Type 0
StandsAfter (Ok true) bytes handed new left = StandsAt bytes (handed ++ new.line ∷ []) new left
StandsAfter (Ok false) bytes handed new left = HandedAll bytes handed new left
StandsAfter (Err OutOfMemory) bytes handed new left = Unit {0}
StandsAfter (Err ReadFault) bytes handed new left = HandedFinished bytes handed new left
StandsAfter (Err TooLong) bytes handed new left = HandedFitting bytes handed new left

-- the same, and no byte was read behind the first that shows that a line is too long
pub record Leads (result : Result Bool LineEnd) (bytes : List ℕ) (handed : List TraceLine)
    (new : Position) (left : List ℕ) : Type 0 where
  pub stands : StandsAfter result bytes handed new left
  pub in_time : StopsInTime bytes left
