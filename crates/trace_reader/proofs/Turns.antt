-- What a line says is the first thing that the trace from it on says.
use Rattle.std.proofs.Common.{◌≡◌, ◌+◌, ℕ, suc, List, [], ◌∷◌, ◌++◌, length, true, false, not, refl}
use Rattle.std.proofs.Common.{sym, ap, ◌∙◌, length-append, arith}
use Rattle.std.specs.Prelude.{slice_get, Some, None, if◌then◌else◌}
use Rattle.std.specs.List.{filter_map, flat_map, before_first, prefix_len}
use Rattle.trace_forms.specs.Lines.{line_of}
use Rattle.trace_forms.specs.Steps.{Step, Reading, blank, step, bad}
use Rattle.trace_lines.specs.Lines.{TraceLine, bytes_of_line, is_too_long, size_of}
use Rattle.trace_reader.specs.Trace.{Trace, BadLine, built_reading, read_line, readings, is_bad}
use Rattle.trace_reader.specs.Trace.{asked, refusals, steps_alone, steps_until, trace_behind}
use Rattle.trace_reader.specs.Trace.{trace_in, with_first}

before_more : (said : Reading) (more : List Reading) → is_bad said ≡ false
    → before_first is_bad (said ∷ more) ≡ said ∷ before_first is_bad more
before_more said more fine =
    let n = prefix_len (λ r. not (is_bad r)) more in
    let next : 1 + n ≡ suc n = omega arith in
    rw fine (rw next)

-- a blank line changes nothing of the trace behind it
blank_then : (number : ℕ) (more : List Reading)
    → trace_in number (blank ∷ more) ≡ trace_in (number + 1) more
blank_then number more =
    λ i. record {
      steps =
          filter_map asked (before_more blank more refl i);
      refusal =
          slice_get (refusals (number + 1) more) 0;
    }

-- a step stands before those of the trace behind it
step_then : (number : ℕ) (s : Step) (more : List Reading)
    → trace_in number (step s ∷ more) ≡ with_first s (trace_in (number + 1) more)
step_then number s more =
    λ i. record {
      steps =
          filter_map asked (before_more (step s) more refl i);
      refusal =
          slice_get (refusals (number + 1) more) 0;
    }

-- what a line says that is not too long
pub short_says : (before : ℕ) (line : TraceLine) → is_too_long before line ≡ false
    → read_line before line ≡ built_reading (line_of line.text)
short_says before line fits = ap (λ t. if t then bad 1 else built_reading (line_of line.text)) fits

pub long_says : (before : ℕ) (line : TraceLine) → is_too_long before line ≡ true
    → read_line before line ≡ bad 1
long_says before line is = ap (λ t. if t then bad 1 else built_reading (line_of line.text)) is

module _ (count before : ℕ) (line : TraceLine) (others : List TraceLine) where
  abbrev later : List Reading
  later = readings (before + size_of line) others

  -- a blank line is passed over
  pub blank_first : read_line before line ≡ blank
      → trace_behind count before (line ∷ others)
      ≡ trace_behind (count + 1) (before + size_of line) others
  blank_first says = ap (λ r. trace_in (count + 1) (r ∷ later)) says ∙ blank_then (count + 1) later

  -- a step stands first
  pub step_first : (s : Step) → read_line before line ≡ step s
      → trace_behind count before (line ∷ others)
      ≡ with_first s (trace_behind (count + 1) (before + size_of line) others)
  step_first s says =
      ap (λ r. trace_in (count + 1) (r ∷ later)) says ∙ step_then (count + 1) s later

  -- a bad line ends the trace
  pub bad_first : (rule : ℕ) → read_line before line ≡ bad rule
      → trace_behind count before (line ∷ others) ≡ steps_until [] (count + 1) rule
  bad_first rule says = ap (λ r. trace_in (count + 1) (r ∷ later)) says ∙ refl

-- these steps before those of a trace
abbrev pub behind : List Step → Trace → Trace
behind done trace = record trace { steps = done ++ trace.steps }

-- how the trace of lines goes on behind some that ask for these steps and are not bad
abbrev GoesOn : List TraceLine → List TraceLine → ℕ → ℕ → List Step → Type 0
GoesOn front back count before done =
    trace_behind count before (front ++ back)
    ≡ behind done
    (trace_behind (count + length front) (before + length (flat_map bytes_of_line front)) back)

-- the counts behind one line more
counts : (line : TraceLine) (ls back : List TraceLine) (count before : ℕ)
    → trace_behind (count + 1 + length ls)
    (before + size_of line + length (flat_map bytes_of_line ls)) back
    ≡ trace_behind (count + length (line ∷ ls))
    (before + length (flat_map bytes_of_line (line ∷ ls))) back
counts line ls back count before =
    let long = length-append (bytes_of_line line) (flat_map bytes_of_line ls) in
    let lines : count + 1 + length ls ≡ count + length (line ∷ ls) = omega arith in
    let bytes : before + size_of line + length (flat_map bytes_of_line ls)
    ≡ before + length (flat_map bytes_of_line (line ∷ ls)) = omega arith in
    λ i. trace_behind (lines i) (bytes i) back

no_refusal : (trace : Trace) → trace.refusal ≡ None → trace ≡ steps_alone trace.steps
no_refusal trace none = λ i. record { steps = trace.steps; refusal = none i }

refused_alone : {A : Type 0} (line rule : ℕ) (done : List Step)
    → steps_until [] line rule ≡ steps_alone done → A
refused_alone line rule done is =
    let never : Some (let bad : BadLine = record { line = line; rule = rule } in bad) ≡ None =
    ap (λ t. t.refusal) is in absurd cc

goes_on_by : (said : Reading) (line : TraceLine) (ls back : List TraceLine) (count before : ℕ)
    (done : List Step) → read_line before line ≡ said
    → trace_behind count before (line ∷ ls) ≡ steps_alone done
    → ((steps : List Step) → trace_behind (count + 1) (before + size_of line) ls ≡ steps_alone steps
    → GoesOn ls back (count + 1) (before + size_of line) steps) → GoesOn (line
    ∷ ls) back count before done
goes_on_by blank line ls back count before done says is more =
    blank_first count before line (ls ++ back) says
    ∙ more done (sym (blank_first count before line ls says) ∙ is)
    ∙ ap (behind done) (counts line ls back count before)
goes_on_by (step s) line ls back count before done says is more =
    let first = sym (step_first count before line ls s says) ∙ is in
    let rest : Trace = trace_behind (count + 1) (before + size_of line) ls in
    step_first count before line (ls ++ back) s says
    ∙ ap (with_first s)
    (more rest.steps (no_refusal rest (ap (λ t. t.refusal) first))
    ∙ ap (behind rest.steps) (counts line ls back count before))
    ∙ ap (λ steps.
    behind steps
    (trace_behind (count + length (line ∷ ls))
    (before + length (flat_map bytes_of_line (line ∷ ls))) back)) (ap (λ t. t.steps) first)
goes_on_by (bad rule) line ls back count before done says is more =
    refused_alone (count + 1) rule done (sym (bad_first count before line ls rule says) ∙ is)

-- the trace of lines behind some that ask for these steps and are not bad
pub trace_behind-append : (front back : List TraceLine) (count before : ℕ) (done : List Step)
    → trace_behind count before front ≡ steps_alone done → GoesOn front back count before done
trace_behind-append [] back count before done is =
    let none : [] ≡ done = ap (λ t. t.steps) is in
    let lines : count ≡ count + length {A = TraceLine} [] = omega arith in
    let bytes : before ≡ before + length (flat_map bytes_of_line []) = omega arith in
    λ i. behind (none i) (trace_behind (lines i) (bytes i) back)
trace_behind-append (line ∷ ls) back count before done is =
    goes_on_by (read_line before line) line ls back count before done refl is
    (λ steps rest. trace_behind-append ls back (count + 1) (before + size_of line) steps rest)
