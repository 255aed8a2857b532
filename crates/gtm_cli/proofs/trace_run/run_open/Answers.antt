use Rattle.std.proofs.Common.{◌∙◌, ap, sym, refl, subst}
use Rattle.std.specs.Prelude.{IfErr}
use Rattle.gtm_base.specs.Causes.{Counts, has_failed}
use Rattle.gtm_base.specs.Engines.{HandsOn}
use Rattle.gtm_base.proofs.ReadPieces.{reads_as}
use Rattle.gtm_cli.specs.Failures.{RefusesNone, is_out_fault, is_trace_fault, trace_refusal}
use Rattle.gtm_cli.proofs.Failing.{not_failed, unasked}
use Rattle.replay_engine.specs.EngineState.{state_at}
use Rattle.replay_engine.proofs.JobTurns.{error_is}
use Rattle.gtm_cli.proofs.OpenRuns.{begun, closed, steps_failed, unbegun}
use Rattle.gtm_cli.proofs.Sames.{some_same}
use Rattle.gtm_cli.proofs.trace_run.run_open.Goals as goal

pub returns-in_err-engine-clause-runs : goal.returns-in_err-engine-clause-runs
returns-in_err-engine-clause-runs g c = λ bytes left is told.
    unbegun c.args.container _ c.in_err-engine.field-0.0 bytes left (g.S.Sink.state c.args.out.now)
    (g.S.Sink.state c.begin.new.out) (error_is _ _ c.from_residual.ensures.1)
    (some_same (sym is ∙ told))
    c.in_err-engine.ensures.fault c.in_err-engine.ensures.ends c.in_err-engine.ensures.unrefused
    c.in_err-engine.ensures.out.front

pub returns-in_err-run_steps-clause-runs : goal.returns-in_err-run_steps-clause-runs
returns-in_err-run_steps-clause-runs g c = λ bytes left is told.
    steps_failed c.args.container _ c.in_err-run_steps.field-0.0 _ _ bytes left _ _ _
    (error_is _ _ c.from_residual-in_err-run_steps.ensures.1) c.in_ok-engine.ensures.state
    (begun _ _ c.args.container c.in_ok-engine.engine c.in_ok-engine.ensures.out)
    (c.in_err-run_steps.ensures.runs bytes left is told)

pub returns-clause-runs : goal.returns-clause-runs
returns-clause-runs g c = λ bytes left is told.
    closed c.args.container _ (state_at c.in_ok-engine.engine) _ _ bytes left _
    (g.S.Sink.state c.begin.new.out) (g.S.Sink.state c.run_steps.new.out)
    (g.S.Sink.state c.close.new.out) _ c.in_ok-engine.ensures.state
    (begun _ _ c.args.container c.in_ok-engine.engine c.in_ok-engine.ensures.out) refl
    (c.in_ok-run_steps.ensures.runs bytes left is told) c.close.ensures.out
    c.close.ensures.fault c.close.ensures.ends c.close.ensures.unrefused

pub returns-in_err-run_steps-clause-files : goal.returns-in_err-run_steps-clause-files
returns-in_err-run_steps-clause-files g c =
    reads_as is_trace_fault _ is_trace_fault _ _ _
    (ap (has_failed is_trace_fault) (error_is _ _ c.from_residual-in_err-run_steps.ensures.1))
    c.in_err-run_steps.ensures.files

pub returns-clause-files : goal.returns-clause-files
returns-clause-files g c =
    reads_as is_trace_fault _ is_trace_fault c.close.result _ _
    (not_failed c.close.result c.close.ensures.fault) c.in_ok-run_steps.ensures.files

pub returns-in_err-engine-clause-engines : goal.returns-in_err-engine-clause-engines
returns-in_err-engine-clause-engines g c =
    unasked _ _ _ refl
    (subst (λ r. IfErr r RefusesNone) (sym (error_is _ _ c.from_residual.ensures.1))
    c.in_err-engine.ensures.unrefused)

pub returns-clause-engines : goal.returns-clause-engines
returns-clause-engines g c =
    unasked _ _ _ c.in_ok-run_steps.ensures.engines.left.kept c.close.ensures.unrefused

pub returns-in_err-run_steps-clause-out : goal.returns-in_err-run_steps-clause-out
returns-in_err-run_steps-clause-out g c =
    subst
    (λ r. Counts (has_failed is_out_fault r) (g.S.Sink.state c.args.out.now).faults
    (g.S.Sink.state c.run_steps.new.out).faults)
    (sym (error_is _ _ c.from_residual-in_err-run_steps.ensures.1))
    (subst
    (λ faults. Counts (is_out_fault c.in_err-run_steps.field-0.0) faults
    (g.S.Sink.state c.run_steps.new.out).faults)
    c.in_ok-engine.ensures.out.counted c.in_err-run_steps.ensures.out)

pub returns-in_err-run_steps-clause-engines : goal.returns-in_err-run_steps-clause-engines
returns-in_err-run_steps-clause-engines g c =
    subst
    (λ r. HandsOn trace_refusal r (g.E.Engines.state c.args.engines.now)
    (g.E.Engines.state c.run_steps.new.engines))
    (sym (error_is _ _ c.from_residual-in_err-run_steps.ensures.1))
    c.in_err-run_steps.ensures.engines
