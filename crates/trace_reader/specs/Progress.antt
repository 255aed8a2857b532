-- A trace that is handed out step by step.
use Rattle.std.specs.Prelude.{◌≡◌, ◌+◌, ℕ, List, [], Bool, true, false, Option, Some, None}
use Rattle.std.specs.Prelude.{option_map, IfSome, Result, Ok, Err}
use Rattle.std.specs.Prelude.{Contains}
use Rattle.std.specs.Option.{ForSome}
use Rattle.trace_forms.specs.Steps.{Reading, blank, step, bad}
use Rattle.trace_forms.specs.Views.{step_of}
use Rattle.trace_forms.specs.declared.steps.TraceStep.{TraceStep}
use Rattle.trace_lines.specs.Lines.{TraceLine}
use Rattle.trace_lines.specs.Reading as reading
use Rattle.trace_lines.specs.Standing.{Leads, StandsAt}
use Rattle.trace_lines.specs.declared.lines.LineEnd.{LineEnd}
use Rattle.trace_lines.specs.declared.lines.LineEnd.TheVariants as line_ends
use Rattle.trace_reader.specs.Trace.{Trace, steps_alone, steps_until, trace_from, with_first}
use Rattle.trace_reader.specs.declared.reader.TraceEnd.{TraceEnd}
use Rattle.trace_reader.specs.declared.reader.TraceEnd.TheVariants.{OutOfMemory, ReadFault, Refused}

-- how far a trace was handed out: where its lines stand, how many of them were read, and how it
-- ended, where it did
pub record Progress : Type 0 where
  pub position : reading.Position
  pub lines : ℕ
  pub ended : Option TraceEnd

-- nothing was handed out
abbrev pub at_start : Progress
at_start = record { position = reading.at_start; lines = 0; ended = None }

-- how many bytes of the trace were handed out, as lines
abbrev pub before_of : Progress → ℕ
before_of progress = progress.position.before

-- whether the end of the file was met
abbrev pub is_at_end : Progress → Bool
is_at_end progress = progress.position.at_end

-- no whole line was read that was not handed out
abbrev pub HoldsNoLine : Progress → Type 0
HoldsNoLine progress = ¬ Contains progress.position.held 10

-- the trace that is still to be handed out, where the bytes left of the file are told
abbrev pub trace_left : Progress → Option (List ℕ) → Option Trace
trace_left progress left =
    let position = progress.position in
    option_map (trace_from progress.lines position.before) (reading.rest_of position left)

-- a read failed
abbrev pub is_fault : TraceEnd → Bool
is_fault OutOfMemory = false
is_fault ReadFault = true
is_fault (Refused line rule) = false

-- a read failed in this call, and not in an earlier one that had ended the trace
abbrev pub fault_after : Option TraceEnd → TraceEnd → Bool
fault_after None end = is_fault end
fault_after (Some earlier) end = false

-- what a call tells of the trace that was left, and of the one that is left now: the first step was
-- handed out; there was neither a step nor a bad line; all stays; or there was no step before this
-- bad line
abbrev pub Tells : Result (Option TraceStep) TraceEnd → Option Trace → Option Trace → Type 0
Tells (Ok (Some s)) old new = old ≡ option_map (with_first (step_of s)) new
Tells (Ok None) old new = (new ≡ old) × IfSome old (λ trace. trace ≡ steps_alone [])
Tells (Err OutOfMemory) old new = Unit {0}
Tells (Err ReadFault) old new = new ≡ old
Tells (Err (Refused line rule)) old new = IfSome old (λ trace. trace ≡ steps_until [] line rule)

-- what a line asks for, the one of this number: a step, or nothing; or the rule that it breaks
abbrev pub Judged : Result (Option TraceStep) TraceEnd → ℕ → Reading → Type 0
Judged (Ok None) number said = said ≡ blank
Judged (Ok (Some s)) number said = said ≡ step (step_of s)
Judged (Err OutOfMemory) number said = Unit {0}
Judged (Err ReadFault) number said = ⊥
Judged (Err (Refused line rule)) number said = (said ≡ bad rule) × (line ≡ number)

-- the lines answered so
pub record LinesAnswer (answer : Result Bool LineEnd) (old new : Progress)
    (left later : Option (List ℕ)) : Type 0 where
  pub told : reading.Tells answer old.position new.position
      (reading.rest_of old.position left) (reading.rest_of new.position later)
  pub stands : (bytes : List ℕ) (handed : List TraceLine)
      → ForSome left (StandsAt bytes handed old.position)
      → ForSome later (Leads answer bytes handed new.position)

-- a line was read, the next one; there is none; or it is too long
abbrev pub Moves : (result : Result Bool TraceEnd) (old new : Progress)
    (left later : Option (List ℕ)) → Type 0
Moves (Ok more) old new left later = LinesAnswer (Ok more) old new left later
Moves (Err OutOfMemory) old new left later =
    LinesAnswer (Err line_ends.OutOfMemory) old new left later
Moves (Err ReadFault) old new left later = LinesAnswer (Err line_ends.ReadFault) old new left later
Moves (Err (Refused line rule)) old new left later =
    LinesAnswer (Err line_ends.TooLong) old new left later × (line ≡ old.lines + 1) × (rule ≡ 1)
