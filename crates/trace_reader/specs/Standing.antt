-- How far the steps of a trace were handed out.
use Rattle.std.specs.Prelude.{◌≡◌, ℕ, List, [], ◌∷◌, ◌++◌, length, Option, Some, None, Result, Ok}
use Rattle.std.specs.Prelude.{Err}
use Rattle.trace_forms.specs.Steps.{Step}
use Rattle.trace_forms.specs.Views.{step_of}
use Rattle.trace_forms.specs.declared.steps.TraceStep.{TraceStep}
use Rattle.trace_lines.specs.Lines.{TraceLine, finished}
use Rattle.trace_lines.specs.Standing as lines
use Rattle.trace_reader.specs.Progress.{Progress}
use Rattle.trace_reader.specs.Trace.{steps_alone, steps_until, trace_of, trace_of_lines}
use Rattle.trace_reader.specs.declared.reader.TraceEnd.{TraceEnd}
use Rattle.trace_reader.specs.declared.reader.TraceEnd.TheVariants.{OutOfMemory, ReadFault, Refused}

-- the reading of these bytes stands here and goes on: the lines that were handed out ask for these
-- steps and none is bad, and these bytes are left of the file
pub record StandsAt (bytes : List ℕ) (done : List Step) (progress : Progress)
    (left : List ℕ) : Type 0 where
  pub handed : List TraceLine
  pub stands : lines.StandsAt bytes handed progress.position left
  pub counted : progress.lines ≡ length handed
  pub steps : trace_of_lines handed ≡ steps_alone done
  pub going : progress.ended ≡ None

-- these are the steps of all lines, and no line is bad
pub record HandedAll (bytes : List ℕ) (done : List Step) (progress : Progress)
    (left : List ℕ) : Type 0 where
  pub stands : StandsAt bytes done progress left
  pub all : trace_of bytes ≡ steps_alone done

-- these are the steps of all lines whose LF was read, and no such line is bad
abbrev pub HandedFinished : List ℕ → List Step → List ℕ → Type 0
HandedFinished bytes done left =
    (read : List ℕ) → bytes ≡ read ++ left → trace_of_lines (finished read) ≡ steps_alone done

-- where a call leaves a reading that had handed these steps out
abbrev pub StandsAfter : (result : Result (Option TraceStep) TraceEnd) (bytes : List ℕ)
    (done : List Step) (new : Progress) (left : List ℕ) → Type 0
StandsAfter (Ok (Some s)) bytes done new left = StandsAt bytes (done ++ step_of s ∷ []) new left
StandsAfter (Ok None) bytes done new left = HandedAll bytes done new left
StandsAfter (Err OutOfMemory) bytes done new left = Unit {0}
StandsAfter (Err ReadFault) bytes done new left = HandedFinished bytes done left
StandsAfter (Err (Refused line rule)) bytes done new left =
    trace_of bytes ≡ steps_until done line rule

-- the same, and no byte was read behind the first that shows that a line is too long
pub record Leads (result : Result (Option TraceStep) TraceEnd) (bytes : List ℕ) (done : List Step)
    (new : Progress) (left : List ℕ) : Type 0 where
  pub stands : StandsAfter result bytes done new left
  pub in_time : lines.StopsInTime bytes left
