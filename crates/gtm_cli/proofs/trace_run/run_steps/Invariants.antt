use Rattle.std.proofs.Common.{◌≡◌, ◌≤◌, ◌-◌, ◌+◌, None}
use Rattle.std.specs.Prelude.{Ok}
use Rattle.gtm_base.specs.Outside.{ReadsOn}
use Rattle.gtm_cli.specs.Failures.{is_trace_fault}
use Rattle.gtm_cli.specs.declared.failures.RunFailure.{RunFailure}
use Rattle.gtm_cli.proofs.StepRuns.{IsRunning}
use Rattle.replay_engine.specs.EngineState.{state_at}
use Rattle.trace_lines.specs.declared.lines.TheConstants.{MAX_TRACE}
use Rattle.trace_reader.specs.Progress.{before_of}
use Rattle.gtm_cli.proofs.trace_run.run_steps.Given as goal

abbrev pub invariant-loop-step : goal.invariant-loop-step
invariant-loop-step g l = record {
  files : ReadsOn {T = Unit {0}} {E = RunFailure} is_trace_fault (Ok (tt {0}))
      (g.F.Files.state l.fn.files) (g.F.Files.state l.files);
  running : IsRunning (state_at l.fn.engine) (g.F.Files.state l.fn.files).left
      (g.S.Sink.state l.fn.out) l.engine l.reader (g.F.Files.state l.files).left
      (g.S.Sink.state l.out);
  engines : g.E.Engines.state l.engines ≡ g.E.Engines.state l.fn.engines;
  going : l.engine.ended ≡ None;
  reading : l.reader.ended ≡ None;
  within : before_of l.reader ≤ MAX_TRACE;
}

abbrev pub decreases-loop-step : goal.decreases-loop-step
decreases-loop-step g l = MAX_TRACE + 1 - before_of l.reader
