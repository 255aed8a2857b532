use Rattle.std.proofs.Common.{◌∙◌, ap, refl, arith}
use Rattle.std.specs.Prelude.{Ok, Err}
use Rattle.gtm_base.proofs.ReadPieces.{reads_nothing, reads_then}
use Rattle.gtm_cli.specs.Failures.{is_trace_fault}
use Rattle.gtm_cli.proofs.Failing.{files_stay, handed_to_step, reader_fault_is}
use Rattle.gtm_cli.proofs.Failing.{reader_refuses_none, told_left, unasked}
use Rattle.gtm_cli.proofs.StepRuns.{running_on, running_start, runs_all, runs_to_step, runs_until}
use Rattle.replay_engine.proofs.JobTurns.{error_is}
use Rattle.trace_reader.specs.Progress.{fault_after}
use Rattle.gtm_cli.proofs.trace_run.run_steps.Goals as goal

pub loop-step-init : goal.loop-step-init
loop-step-init g c = record {
  files = reads_nothing is_trace_fault (Ok (tt {0})) _ c.requires.open refl;
  running = running_start _ _ _ _ c.new-reader.ensures.start;
  engines = refl;
  going = c.requires.going;
  reading = ap (λ progress. progress.ended) c.new-reader.ensures.value;
  within = rw c.new-reader.ensures.value (omega arith);
}

pub loop-step-preserved : goal.loop-step-preserved
loop-step-preserved g c = record {
  files =
      reads_then is_trace_fault _ (fault_after c.loop-step.reader.ended) (Ok c.in-Ok-Some.field-0)
      is_trace_fault (Ok (tt {0})) _ _ _ refl c.loop-step.invariant.files
      c.in-Ok-Some.ensures.files;
  running =
      running_on _ _ _ _ _ _ _ _ _ _ _ _ c.in-Ok-Some.step c.in-Ok-Some.field-0
      c.in-Ok-Some.field-0-is c.loop-step.invariant.running
      (λ bytes done at left told. c.in-Ok-Some.ensures.stands bytes done at left told)
      (rw c.loop-step.invariant.going at c.in_ok-step-in-Ok-Some.ensures.runs);
  engines =
      (rw c.loop-step.invariant.going at c.in_ok-step-in-Ok-Some.ensures.engines).left.kept
      ∙ c.loop-step.invariant.engines;
  going = rw c.loop-step.invariant.going at c.in_ok-step-in-Ok-Some.ensures.ended;
  reading = c.in-Ok-Some.ensures.goes_on;
  within = c.in-Ok-Some.ensures.within;
}

pub returns-in_err-step-in-Ok-Some-clause-files : goal.returns-in_err-step-in-Ok-Some-clause-files
returns-in_err-step-in-Ok-Some-clause-files g c =
    reads_then is_trace_fault _ (fault_after c.loop-step.reader.ended) (Ok c.in-Ok-Some.field-0)
    is_trace_fault c.from_residual.result _ _ _
    (files_stay c.from_residual.result c.in_err-step-in-Ok-Some.field-0.0
    (error_is _ _
    c.from_residual.ensures.1)) c.loop-step.invariant.files c.in-Ok-Some.ensures.files

pub returns-in_err-step-in-Ok-Some-clause-runs : goal.returns-in_err-step-in-Ok-Some-clause-runs
returns-in_err-step-in-Ok-Some-clause-runs g c = λ bytes left is told.
    let running = c.loop-step.invariant.running in
    runs_to_step c.in_err-step-in-Ok-Some.field-0.0 _ _ _ _ _ c.step.new.self _ _ _ _ _
    c.in-Ok-Some.step c.in-Ok-Some.field-0 bytes left (error_is _ _ c.from_residual.ensures.1)
    c.in-Ok-Some.field-0-is running
    (c.in-Ok-Some.ensures.stands bytes running.done (running.stands bytes is) left told)
    (rw c.loop-step.invariant.going at c.in_err-step-in-Ok-Some.ensures.runs)
    (rw c.loop-step.invariant.going at c.in_err-step-in-Ok-Some.ensures.asked)

pub returns-in-Ok-None-clause-files : goal.returns-in-Ok-None-clause-files
returns-in-Ok-None-clause-files g c =
    reads_then is_trace_fault _ (fault_after c.loop-step.reader.ended) (Ok c.in-Ok-None.field-0)
    is_trace_fault (Ok (tt {0})) _ _ _ refl c.loop-step.invariant.files
    c.in-Ok-None.ensures.files

pub returns-in-Ok-None-clause-runs : goal.returns-in-Ok-None-clause-runs
returns-in-Ok-None-clause-runs g c = λ bytes left is told.
    let running = c.loop-step.invariant.running in
    runs_all _ _ _ _ _ _ _ _ bytes left c.in-Ok-None.field-0 c.in-Ok-None.field-0-is running
    (c.in-Ok-None.ensures.stands bytes running.done (running.stands bytes is) left told)

pub returns-in-Err-clause-files : goal.returns-in-Err-clause-files
returns-in-Err-clause-files g c =
    reads_then is_trace_fault _ (fault_after c.loop-step.reader.ended) (Err c.in-Err.end)
    is_trace_fault (Err c.from.result) _ _ _
    (reader_fault_is c.loop-step.reader.ended c.in-Err.end c.from.result
    c.loop-step.invariant.reading
    c.from.ensures) c.loop-step.invariant.files c.in-Err.ensures.files

pub returns-in-Err-clause-runs : goal.returns-in-Err-clause-runs
returns-in-Err-clause-runs g c = λ bytes left is told.
    let running = c.loop-step.invariant.running in
    let before = told_left _ _ bytes is c.loop-step.invariant.files.read in
    runs_until c.in-Err.end _ _ _ _ _ _ _ _ _ bytes before.left left (ap Err c.from.ensures) running
    (running.stands bytes is before.left before.told)
    (c.in-Err.ensures.stands bytes running.done (running.stands bytes is) left told)

pub returns-in_err-step-in-Ok-Some-clause-engines :
    goal.returns-in_err-step-in-Ok-Some-clause-engines
returns-in_err-step-in-Ok-Some-clause-engines g c =
    handed_to_step c.from_residual.result c.in_err-step-in-Ok-Some.field-0.0 _ _ _
    (error_is _ _ c.from_residual.ensures.1) c.loop-step.invariant.engines
    (rw c.loop-step.invariant.going at c.in_err-step-in-Ok-Some.ensures.engines)

pub returns-in-Ok-None-clause-engines : goal.returns-in-Ok-None-clause-engines
returns-in-Ok-None-clause-engines g c = unasked _ _ _ c.loop-step.invariant.engines tt

pub returns-in-Err-clause-engines : goal.returns-in-Err-clause-engines
returns-in-Err-clause-engines g c =
    unasked _ _ _ c.loop-step.invariant.engines
    (reader_refuses_none c.in-Err.end _ c.from.ensures)
