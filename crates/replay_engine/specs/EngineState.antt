-- An engine, as contracts see it, and what its calls do.
use Rattle.std.specs.Prelude.{◌≡◌, ℕ, ◌*◌, ◌≤◌, false, true, Option, Result, Err, IsSome, OnOk}
use Rattle.page_world.specs.Known.{seen}
use Rattle.gtm_base.specs.Outside.{SinkState, Writes, and_then}
use Rattle.replay_engine.specs.Jobs.{State, Ran}
use Rattle.replay_engine.specs.Run.{lines_text}
use Rattle.replay_engine.specs.RunFault.{is_run_fault}
use Rattle.replay_engine.specs.Views.{Standing, state_in}
use Rattle.replay_engine.specs.declared.event_model.EventModel.{EventModel}
use Rattle.replay_engine.specs.declared.limits.TheConstants.{MAX_JOBS, MAX_STEPS}
use Rattle.replay_engine.specs.declared.run_end.RunEnd.{RunEnd}
use Rattle.replay_engine.specs.declared.run_end.RunEnd.TheVariants.{OutOfMemory, JobLimit}
use Rattle.replay_engine.specs.declared.run_end.RunEnd.TheVariants.{EngineRefused, SinkFault}

-- where the run stands, and how it ended, where it did
pub record EngineState : Type 0 where
  pub standing : Standing
  pub ended : Option RunEnd

-- where the run of an engine stands
abbrev pub state_at : EngineState → State
state_at engine = state_in engine.standing

-- the world is not spent, and no count is greater than its steps allow
pub record IsReady (model : EventModel) : Type 0 where
  pub live : IsSome (seen model.world)
  pub steps : model.steps ≤ MAX_STEPS
  pub jobs : model.jobs ≤ MAX_JOBS * model.steps
  pub events : model.events ≤ model.jobs

-- the end is that the step of this number needs a job more than it may have
abbrev pub IsLimit : RunEnd → ℕ → Type 0
IsLimit OutOfMemory step = ⊥
IsLimit (JobLimit number) step = number ≡ step
IsLimit (EngineRefused text) step = ⊥
IsLimit SinkFault step = ⊥

-- a step was run: its lines were written, or a front of them; where it needs no job more than it
-- may have, all is done, and else it ends the run, when the lines of the jobs that it may have were
-- written
pub record RunsStep (result : Result Unit RunEnd) (ran : Ran) (after : State)
    (old new : SinkState) : Type 0 where
  pub text : Writes is_run_fault result old new (lines_text ran.lines)
  pub within : OnOk result (ran.over ≡ false)
  pub state : OnOk result (after ≡ ran.state)
  pub over : (step : ℕ) → result ≡ Err (JobLimit step)
      → (ran.over ≡ true) × (step ≡ ran.state.steps)
      × (new.taken ≡ and_then old.taken (lines_text ran.lines))
