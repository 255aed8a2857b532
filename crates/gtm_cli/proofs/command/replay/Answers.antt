use Rattle.gtm_cli.proofs.Reported.{reported}
use Rattle.gtm_cli.proofs.command.replay.Goals as goal

pub returns-clause-run : goal.returns-clause-run
returns-clause-run g c =
    rw c.in-Some.ensures.some
    (reported _ _ _ _ _ _ _ _ c.report.ensures.status c.run_files-status.ensures.run)
