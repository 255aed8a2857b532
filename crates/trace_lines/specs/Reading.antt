-- A trace that is read line by line.
use Rattle.std.specs.Prelude.{◌≡◌, ◌+◌, ◌<◌, ℕ, List, [], ◌∷◌, ◌++◌, Bool, true, false, IsTrue}
use Rattle.std.specs.Prelude.{Contains, Option, option_map, IfSome, Result, Ok, Err, if◌then◌else◌}
use Rattle.trace_lines.specs.Lines.{TraceLine, lines, size_of, is_too_long}
use Rattle.trace_lines.specs.declared.lines.LineEnd.{LineEnd}
use Rattle.trace_lines.specs.declared.lines.LineEnd.TheVariants.{OutOfMemory, ReadFault, TooLong}

-- where the reading of a trace stands: the line that was handed out last, the bytes that were read
-- behind it, how many bytes of the trace stand before these, and whether the end of the file was
-- met
pub record Position : Type 0 where
  pub line : TraceLine
  pub held : List ℕ
  pub before : ℕ
  pub at_end : Bool

-- no line was handed out, or the last one was let go
abbrev pub no_line : TraceLine
no_line = record { text = []; ended = false }

-- at the first byte of a trace
abbrev pub at_start : Position
at_start = record { line = no_line; held = []; before = 0; at_end = false }

-- the bytes that are not handed out: those that are held, and those that are left of the file
-- unless its end was met
abbrev pub waiting : Position → List ℕ → List ℕ
waiting position left = position.held ++ (if position.at_end then [] else left)

-- what of a trace is not handed out, where this is told of the file
abbrev pub rest_of : Position → Option (List ℕ) → Option (List ℕ)
rest_of position left = option_map (waiting position) left

-- a read failed
abbrev pub is_read_fault : LineEnd → Bool
is_read_fault OutOfMemory = false
is_read_fault ReadFault = true
is_read_fault TooLong = false

-- a line was handed out that is not too long: it is the first of what was not handed out, and the
-- others are those of what is not now
pub record GoesOn (old new : Position) (rest later : Option (List ℕ)) : Type 0 where
  pub lines_are : option_map lines rest ≡ option_map (λ bytes. new.line ∷ lines bytes) later
  pub fits : is_too_long old.before new.line ≡ false
  pub before : new.before ≡ old.before + size_of new.line
  pub further : old.before < new.before
  pub end : IsTrue old.at_end → IsTrue new.at_end

-- no byte was handed out or lost
pub record Stays (old new : Position) (rest later : Option (List ℕ)) : Type 0 where
  pub same : later ≡ rest
  pub before : new.before ≡ old.before

-- nothing is left to hand out, and the end of the file was met
pub record Ends (old new : Position) (rest later : Option (List ℕ)) : Type 0 where
  pub stays : Stays old new rest later
  pub none : IfSome rest (λ bytes. bytes ≡ [])
  pub held : new.held ≡ []
  pub at_end : IsTrue new.at_end

-- a read failed, where the end of the file was not met: no byte was handed out or lost, and no LF
-- is held
pub record Fails (old new : Position) (rest later : Option (List ℕ)) : Type 0 where
  pub stays : Stays old new rest later
  pub going : old.at_end ≡ false
  pub none : ¬ Contains new.held 10

-- the first line of these bytes is too long
pub record HasTooLong (before : ℕ) (bytes : List ℕ) : Type 0 where
  pub line : TraceLine
  pub others : List TraceLine
  pub first : lines bytes ≡ line ∷ others
  pub is : is_too_long before line ≡ true

-- the next line is too long, and no byte was handed out or lost
pub record Stops (old new : Position) (rest later : Option (List ℕ)) : Type 0 where
  pub stays : Stays old new rest later
  pub found : IfSome rest (HasTooLong old.before)

-- what the answer of a call tells of what was not handed out before it, and of what is not after
-- it: where memory was wanting, no line was handed out
abbrev pub Tells : (result : Result Bool LineEnd) (old new : Position)
    (rest later : Option (List ℕ)) → Type 0
Tells (Ok true) old new rest later = GoesOn old new rest later
Tells (Ok false) old new rest later = Ends old new rest later
Tells (Err OutOfMemory) old new rest later = new.before ≡ old.before
Tells (Err ReadFault) old new rest later = Fails old new rest later
Tells (Err TooLong) old new rest later = Stops old new rest later
