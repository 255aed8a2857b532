use Rattle.std.proofs.Common.{◌+◌, ◌-◌, ◌∙◌, ap, sym, refl, arith}
use Rattle.replay_engine.specs.Views.{job_of, state_of}
use Rattle.replay_engine.specs.declared.limits.TheConstants.{MAX_JOBS}
use Rattle.replay_engine.proofs.JobTurns.{counts_job, error_is, left_counts, none_next, reaches_end}
use Rattle.replay_engine.proofs.JobTurns.{reaches_limit, reaches_no_memory, reaches_on}
use Rattle.replay_engine.proofs.JobTurns.{reaches_part, reaches_start}
use Rattle.replay_engine.proofs.event_model.EventModel.run_jobs.Goals as goal
use Rattle.run_log.specs.LineFault.{is_line_fault}

pub loop-taken-init : goal.loop-taken-init
loop-taken-init g c = record {
  reached = reaches_start MAX_JOBS (state_of c.args.self.now) _;
  live = c.requires.live;
  steps = refl;
  jobs = omega arith;
  events = c.requires.events;
}

pub returns-in_err-job-clause-runs : goal.returns-in_err-job-clause-runs
returns-in_err-job-clause-runs g c =
    reaches_no_memory _ _ _ _ _ _ _ (error_is _ _ c.from_residual.ensures.1)
    c.loop-taken.invariant.reached

pub returns-in_default-clause-runs : goal.returns-in_default-clause-runs
returns-in_default-clause-runs g c =
    let next = rw c.in_default.is at c.in_ok-job.ensures.next in
    reaches_end _ _ _ _ _ _ next.0 next.1 c.loop-taken.invariant.reached

pub returns-in_default-clause-ready : goal.returns-in_default-clause-ready
returns-in_default-clause-ready g c =
    let next = rw c.in_default.is at c.in_ok-job.ensures.next in
    let same = next.1 in
    record {
      live = rw c.in_ok-job.ensures.world c.loop-taken.invariant.live;
      steps =
          omega (
            arith,
            ap (λ state. state.steps) same,
            c.loop-taken.invariant.steps,
            c.requires.steps,
          );
      jobs =
          omega (
            arith,
            ap (λ state. state.jobs) same,
            ap (λ state. state.steps) same,
            c.loop-taken.invariant.steps,
            c.loop-taken.invariant.jobs,
            c.requires.jobs,
          );
      events =
          omega (
            arith,
            ap (λ state. state.jobs) same,
            ap (λ state. state.events) same,
            c.loop-taken.invariant.events,
          );
    }

pub run_job-requires-clause-live : goal.run_job-requires-clause-live
run_job-requires-clause-live g c = rw c.in_ok-job.ensures.world c.loop-taken.invariant.live

pub run_job-requires-clause-jobs : goal.run_job-requires-clause-jobs
run_job-requires-clause-jobs g c =
    let next = rw c.in-Some.is at c.in_ok-job.ensures.next in
    let counts =
    left_counts (state_of c.loop-taken.self) (job_of c.in-Some.job)
    (state_of c.next_job.new.self) next in
    omega (arith, counts.jobs, c.loop-taken.invariant.jobs, c.requires.jobs, c.requires.steps)

pub run_job-requires-clause-events : goal.run_job-requires-clause-events
run_job-requires-clause-events g c =
    let next = rw c.in-Some.is at c.in_ok-job.ensures.next in
    let counts =
    left_counts (state_of c.loop-taken.self) (job_of c.in-Some.job)
    (state_of c.next_job.new.self) next in
    omega (arith, counts.jobs, counts.events, c.loop-taken.invariant.events)

pub returns-in_err-run_job-clause-runs : goal.returns-in_err-run_job-clause-runs
returns-in_err-run_job-clause-runs g c =
    let next = rw c.in-Some.is at c.in_ok-job.ensures.next in
    reaches_part _ _ (MAX_JOBS - c.loop-taken.taken) (state_of c.loop-taken.self)
    (state_of c.next_job.new.self) _ (job_of c.in-Some.job) _ _ _ _
    (error_is _ _ c.from_residual-in_err-run_job.ensures.1) (omega arith) next
    c.loop-taken.invariant.reached c.in_err-run_job.ensures.lines

pub loop-taken-preserved : goal.loop-taken-preserved
loop-taken-preserved g c =
    let next = rw c.in-Some.is at c.in_ok-job.ensures.next in
    let left =
    left_counts (state_of c.loop-taken.self) (job_of c.in-Some.job)
    (state_of c.next_job.new.self) next in
    let done = counts_job (state_of c.next_job.new.self) (job_of c.in-Some.job) in
    let made = c.in_ok-run_job.ensures.state in
    record {
      reached =
          reaches_on is_line_fault _ (MAX_JOBS - c.loop-taken.taken)
          (MAX_JOBS - (c.loop-taken.taken + 1)) (state_of c.loop-taken.self)
          (state_of c.next_job.new.self) (state_of c.run_job.new.self) (job_of c.in-Some.job)
          _ _ _ _ (omega arith) (omega arith) next made c.loop-taken.invariant.reached
          c.in_ok-run_job.ensures.lines;
      live = c.in_ok-run_job.ensures.live;
      steps =
          ap (λ state. state.steps) made ∙ done.steps ∙ left.steps ∙ c.loop-taken.invariant.steps;
      jobs =
          omega (
            arith,
            ap (λ state. state.jobs) made,
            done.jobs,
            left.jobs,
            c.loop-taken.invariant.jobs,
          );
      events =
          omega (
            arith,
            ap (λ state. state.jobs) made,
            ap (λ state. state.events) made,
            done.jobs,
            done.events,
            left.jobs,
            left.events,
            c.loop-taken.invariant.events,
          );
    }

pub returns-then-has_job-clause-runs : goal.returns-then-has_job-clause-runs
returns-then-has_job-clause-runs g c =
    reaches_limit (MAX_JOBS - c.loop-taken.taken) (state_of c.loop-taken.self) _ _ _ _ _
    (omega arith) (sym c.has_job.ensures ∙ c.if-has_job.true) refl
    c.loop-taken.invariant.reached

pub returns-clause-runs : goal.returns-clause-runs
returns-clause-runs g c =
    reaches_end _ _ _ _ _ _ (none_next _ (sym c.has_job.ensures ∙ c.if-has_job.false)) refl
    c.loop-taken.invariant.reached

pub returns-clause-ready : goal.returns-clause-ready
returns-clause-ready g c = record {
  live = c.loop-taken.invariant.live;
  steps = omega (arith, c.loop-taken.invariant.steps, c.requires.steps);
  jobs = omega (arith, c.loop-taken.invariant.steps, c.loop-taken.invariant.jobs, c.requires.jobs);
  events = c.loop-taken.invariant.events;
}
