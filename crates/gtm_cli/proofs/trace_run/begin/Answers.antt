use Rattle.std.proofs.Common.{◌∙◌, ap}
use Rattle.gtm_base.proofs.WrittenPieces.{writes_as}
use Rattle.gtm_cli.specs.Failures.{is_out_fault, is_trace_fault}
use Rattle.gtm_cli.proofs.Failing.{no_trace_fault, out_fault_is, refuses_no_text, tells_no_end}
use Rattle.gtm_cli.proofs.trace_run.begin.Goals as goal
use Rattle.replay_engine.specs.RunFault.{is_run_fault}

pub returns-in-Err-clause-out : goal.returns-in-Err-clause-out
returns-in-Err-clause-out g c =
    writes_as is_run_fault c.in-Err.end is_out_fault _ _ _ _
    (ap is_out_fault c.from.ensures ∙ out_fault_is c.in-Err.end)
    (rw c.in_ok-engine.ensures.ended at c.in-Err.ensures.lines)

pub returns-in-Err-clause-ends : goal.returns-in-Err-clause-ends
returns-in-Err-clause-ends g c =
    tells_no_end c.in-Err.end _ c.from.ensures
    (rw c.in_ok-engine.ensures.ended at c.in-Err.ensures.unlimited)

pub returns-in-Err-clause-fault : goal.returns-in-Err-clause-fault
returns-in-Err-clause-fault g c =
    ap is_trace_fault c.from.ensures ∙ no_trace_fault c.in-Err.end

pub returns-in-Err-clause-unrefused : goal.returns-in-Err-clause-unrefused
returns-in-Err-clause-unrefused g c =
    refuses_no_text c.in-Err.end _ c.from.ensures
    (rw c.in_ok-engine.ensures.ended at c.in-Err.ensures.unlimited)
