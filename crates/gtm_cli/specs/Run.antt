-- The run of a container over a trace: its text, and how it ends.
use Rattle.std.specs.Prelude.{ℕ, List, [], ◌++◌, Option, Some, None}
use Rattle.export_model.specs.declared.container.Container.{Container}
use Rattle.gtm_base.specs.declared.status.Status.{Status}
use Rattle.gtm_base.specs.declared.status.Status.TheVariants.{Done, TraceRefused, JobLimit}
use Rattle.replay_engine.specs.Jobs.{State}
use Rattle.replay_engine.specs.Run.{closing, lines_text, run_of, steps_text}
use Rattle.trace_reader.specs.Trace.{Trace, BadLine}

-- the closing lines stand where no step was over the limit and no line of the trace is bad
abbrev pub closing_text : Option ℕ → Option BadLine → State → List ℕ
closing_text None None state = lines_text (closing state)
closing_text _ _ state = []

-- the text of a run
abbrev pub run_text : Container → Trace → List ℕ
run_text container trace =
    steps_text container trace.steps
    ++ closing_text (run_of container trace.steps).limit trace.refusal
    (run_of container trace.steps).state

-- the status of a run: a step was over the limit, else a line of the trace is bad, else all is done
abbrev pub status_at : Option ℕ → Option BadLine → Status
status_at (Some step) refusal = JobLimit step
status_at None (Some bad) = TraceRefused bad.line bad.rule
status_at None None = Done

-- how a run ends
abbrev pub run_status : Container → Trace → Status
run_status container trace = status_at (run_of container trace.steps).limit trace.refusal
