-- The steps of a trace.
use Rattle.std.specs.Prelude.{ℕ, ◌+◌, List, ◌∷◌, Bool, true, false, Option, Some, None}
use Rattle.std.specs.Prelude.{if◌then◌else◌, slice_get}
use Rattle.std.specs.List.{scan, filter_map, enumerate_from, before_first}
use Rattle.trace_forms.specs.Lines.{line_of}
use Rattle.trace_forms.specs.Steps.{Step, fact, push, args, load, vendor, Reading, blank, step, bad}
use Rattle.trace_lines.specs.Lines.{TraceLine, lines, size_of, is_too_long}

-- what a step says: rule 8 for one that is not run yet, which are all but pushes and facts
abbrev pub built : Step → Reading
built (push t) = step (push t)
built (fact f) = step (fact f)
built (args t) = bad 8
built (load number ok) = bad 8
built (vendor number ok) = bad 8

-- the same of what a line says
abbrev pub built_reading : Reading → Reading
built_reading blank = blank
built_reading (step s) = built s
built_reading (bad rule) = bad rule

-- what a line says that has so many bytes of the trace before it: rule 1 for one that is too long
abbrev pub read_line : ℕ → TraceLine → Reading
read_line before line = if is_too_long before line then bad 1 else built_reading (line_of line.text)

-- what each line says, with the bytes before it counted
abbrev pub readings : ℕ → List TraceLine → List Reading
readings before lines = scan (λ before line. before + size_of line) read_line before lines

-- a line that is refused: its number, from 1, and the least rule that it breaks
pub record BadLine : Type 0 where
  pub line : ℕ
  pub rule : ℕ

-- the steps before the first bad line, and that line
pub record Trace : Type 0 where
  pub steps : List Step
  pub refusal : Option BadLine

-- a line breaks a rule
abbrev pub is_bad : Reading → Bool
is_bad blank = false
is_bad (step s) = false
is_bad (bad rule) = true

-- the step that a line asks for
abbrev pub asked : Reading → Option Step
asked blank = None
asked (step s) = Some s
asked (bad rule) = None

-- the refusal of the line with this number, where it breaks a rule
abbrev pub refused_by : ℕ → Reading → Option BadLine
refused_by number blank = None
refused_by number (step s) = None
refused_by number (bad rule) = Some (record { line = number; rule = rule })

-- the refusals of the lines that break a rule, the first line having this number
abbrev pub refusals : ℕ → List Reading → List BadLine
refusals number said = filter_map (λ line. refused_by line.0 line.1) (enumerate_from number said)

-- the trace of lines that say this, the first of which has this number: the steps asked for before
-- the first bad line, and the refusal of that line
abbrev pub trace_in : ℕ → List Reading → Trace
trace_in number said = record {
  steps = filter_map asked (before_first is_bad said);
  refusal = slice_get (refusals number said) 0;
}

-- the trace of lines that stand behind so many lines and bytes
abbrev pub trace_behind : ℕ → ℕ → List TraceLine → Trace
trace_behind lines_before before ls = trace_in (lines_before + 1) (readings before ls)

-- the trace of a file's lines
abbrev pub trace_of_lines : List TraceLine → Trace
trace_of_lines ls = trace_behind 0 0 ls

-- the trace of bytes that stand behind so many lines and bytes
unfoldable pub trace_from : ℕ → ℕ → List ℕ → Trace
trace_from lines_before before bytes = trace_behind lines_before before (lines bytes)

-- the trace of a file's bytes
abbrev pub trace_of : List ℕ → Trace
trace_of bytes = trace_of_lines (lines bytes)

-- these steps, and no bad line
abbrev pub steps_alone : List Step → Trace
steps_alone steps = record { steps = steps; refusal = None }

-- these steps, and then this bad line
abbrev pub steps_until : List Step → ℕ → ℕ → Trace
steps_until steps line rule = record {
  steps = steps;
  refusal = Some (record { line = line; rule = rule });
}

-- a trace with this step before the others
abbrev pub with_first : Step → Trace → Trace
with_first s trace = record trace { steps = s ∷ trace.steps }
