use Rattle.std.proofs.Common.{◌≡◌, ◌≤◌, ◌+◌, ◌-◌, IsSome}
use Rattle.page_world.specs.Known.{seen}
use Rattle.replay_engine.specs.Jobs.{take_jobs}
use Rattle.replay_engine.specs.Views.{state_of}
use Rattle.replay_engine.specs.declared.limits.TheConstants.{MAX_JOBS}
use Rattle.replay_engine.proofs.JobTurns.{Reaches}
use Rattle.replay_engine.proofs.event_model.EventModel.run_jobs.Given as goal

abbrev pub invariant-loop-taken : goal.invariant-loop-taken
invariant-loop-taken g l = record {
  reached : Reaches (MAX_JOBS - l.taken) (state_of l.self) (take_jobs MAX_JOBS (state_of l.fn.self))
      (g.S.Sink.state l.fn.out) (g.S.Sink.state l.out);
  live : IsSome (seen l.self.world);
  steps : l.self.steps ≡ l.fn.self.steps;
  jobs : l.self.jobs ≤ l.fn.self.jobs + l.taken;
  events : l.self.events ≤ l.self.jobs;
}
