-- What the values of the program stand for.
use Rattle.gtm_data.specs.Facts.{fact_of}
use Rattle.gtm_data.specs.Tree.{tree_of}
use Rattle.trace_forms.specs.Steps.{Step, fact, push, args, load, vendor, Reading, blank, step, bad}
use Rattle.trace_forms.specs.declared.steps.LineRead.{LineRead}
use Rattle.trace_forms.specs.declared.steps.LineRead.TheVariants as reads
use Rattle.trace_forms.specs.declared.steps.TraceStep.{TraceStep}
use Rattle.trace_forms.specs.declared.steps.TraceStep.TheVariants as steps

-- the step that a value is
abbrev pub step_of : TraceStep → Step
step_of (steps.Fact f) = fact (fact_of f)
step_of (steps.Push value) = push (tree_of value)
step_of (steps.Args value) = args (tree_of value)
step_of (steps.Load number ok) = load number ok
step_of (steps.Vendor number ok) = vendor number ok

-- what a line says, from what was read of it
abbrev pub reading_of : LineRead → Reading
reading_of reads.Blank = blank
reading_of (reads.Step s) = step (step_of s)
reading_of (reads.Bad rule) = bad rule
