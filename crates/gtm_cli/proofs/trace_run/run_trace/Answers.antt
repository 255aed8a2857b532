use Rattle.std.proofs.Common.{refl}
use Rattle.gtm_cli.proofs.EnoughRead.{opened}
use Rattle.gtm_cli.proofs.Failing.{unasked}
use Rattle.gtm_cli.proofs.TraceRuns.{closed_by, ran, unopened}
use Rattle.gtm_cli.proofs.trace_run.run_trace.Goals as goal

pub returns-then-is_err-clause-runs : goal.returns-then-is_err-clause-runs
returns-then-is_err-clause-runs g c =
    unopened c.args.container _ _ _ _
    (closed_by c.open.result _ _ _ c.if-is_err.ensures.value c.open.ensures)

pub returns-clause-runs : goal.returns-clause-runs
returns-clause-runs g c =
    ran c.args.container _ _ _ _ _ _ _
    (λ bytes holds.
    opened c.open.result _ _ _ bytes c.if-is_err.ensures.value holds
    c.open.ensures) c.run_open.ensures.files
    (λ bytes left is told. c.run_open.ensures.runs bytes left is told)

pub returns-then-is_err-clause-engines : goal.returns-then-is_err-clause-engines
returns-then-is_err-clause-engines g c = unasked _ _ _ refl tt
