-- The run of a list of steps, and its text.
use Rattle.std.specs.Prelude.{ℕ, ◌+◌, List, [], ◌∷◌, ◌++◌, Option, Some, None, if◌then◌else◌}
use Rattle.std.specs.List.{flat_map, scan}
use Rattle.export_model.specs.declared.container.Container.{Container}
use Rattle.replay_engine.specs.Jobs.{State, start, Ran, own_message, take_jobs, with_messages}
use Rattle.replay_engine.specs.declared.limits.TheConstants.{MAX_JOBS}
use Rattle.run_log.specs.Lines.{LogLine, Counts, model, finish, line_bytes}
use Rattle.page_world.specs.World.{after_fact}
use Rattle.replay_engine.specs.Addresses.{filled}
use Rattle.trace_forms.specs.Steps.{Step, fact, push}

-- a step is counted; the value of a push waits, and a fact is taken, with its addresses read; the
-- other steps make no job yet, and no trace has one
abbrev pub begin_step : State → Step → State
begin_step state (push value) =
    record (with_messages state (state.waiting.messages ++ own_message value ∷ [])) {
      steps =
          state.steps + 1;
    }
begin_step state (fact f) =
    record state { world = after_fact (filled f) state.world; steps = state.steps + 1 }
begin_step state _ = record state { steps = state.steps + 1 }

-- a step and its jobs
abbrev pub step_run : State → Step → Ran
step_run state step = take_jobs MAX_JOBS (begin_step state step)

-- the state and the lines after a list of steps, and the number of the step that needs a job more,
-- which ends the run
pub record Run : Type 0 where
  pub state : State
  pub lines : List LogLine
  pub limit : Option ℕ

-- the run goes on where the step was not over the limit
abbrev pub then_steps : (State → Run) → Ran → Run
then_steps rest ran =
    if ran.over then record { state = ran.state; lines = ran.lines; limit = Some ran.state.steps }
    else record (rest ran.state) { lines = ran.lines ++ (rest ran.state).lines }

-- the run of a list of steps from this state on
unfoldable pub run_from : State → List Step → Run
run_from state [] = record { state = state; lines = []; limit = None }
run_from state (step ∷ steps) = then_steps (λ after. run_from after steps) (step_run state step)

-- the lines before the first step: what of a container is not run as it is meant; so far nothing,
-- since no entry is run
abbrev pub warnings : Container → List LogLine
warnings container = []

-- what the last line counts; no tag starts yet
abbrev pub counts_of : ℕ → ℕ → ℕ → Counts
counts_of steps jobs events =
    record {
      steps =
          steps;
      jobs = jobs;
      events = events;
      starts = 0;
      ok = 0;
      fail = 0;
      denied = 0;
      faults = 0;
    }

-- the closing lines
abbrev pub closing : State → List LogLine
closing state =
    model state.world.layer.model ∷ finish (counts_of state.steps state.jobs state.events) ∷ []

-- the text of lines of the log
abbrev pub lines_text : List LogLine → List ℕ
lines_text lines = flat_map line_bytes lines

-- the run of a container and a list of steps
abbrev pub run_of : Container → List Step → Run
run_of container steps = run_from (start container) steps

-- the text of each of these steps, run one after the other from this state on
abbrev pub step_texts : State → List Step → List (List ℕ)
step_texts state steps =
    scan (λ now step. (step_run now step).state) (λ now step. lines_text (step_run now step).lines)
    state steps

-- the text of the steps of a run, with the warnings before
abbrev pub steps_text : Container → List Step → List ℕ
steps_text container steps =
    lines_text (warnings container) ++ lines_text (run_of container steps).lines
