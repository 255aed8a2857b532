use Rattle.gtm_cli.proofs.Joined.{joined_two}
use Rattle.gtm_cli.proofs.report.write_engine.Goals as goal

pub returns : goal.returns
returns c = joined_two _ _ _ _ _ c.in_ok-push_word.ensures.ok c.in_ok-write_quoted.ensures
