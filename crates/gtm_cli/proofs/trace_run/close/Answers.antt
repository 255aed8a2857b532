use Rattle.gtm_cli.proofs.Failing.{refuses_no_text, tells_no_end}
use Rattle.gtm_cli.proofs.trace_run.close.Goals as goal

pub returns-in-Err-clause-ends : goal.returns-in-Err-clause-ends
returns-in-Err-clause-ends g c =
    tells_no_end c.in-Err.end _ c.from.ensures (rw c.requires at c.in-Err.ensures.unlimited)

pub returns-in-Err-clause-unrefused : goal.returns-in-Err-clause-unrefused
returns-in-Err-clause-unrefused g c =
    refuses_no_text c.in-Err.end _ c.from.ensures (rw c.requires at c.in-Err.ensures.unlimited)
