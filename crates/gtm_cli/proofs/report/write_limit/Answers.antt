use Rattle.gtm_cli.proofs.Joined.{joined}
use Rattle.gtm_cli.proofs.report.write_limit.Goals as goal

pub returns : goal.returns
returns c =
    joined _ _ _ _ _ _ _ _ _ c.in_ok-push_word.ensures.ok c.in_ok-push_unsigned.ensures.ok
    c.in_ok-push_word-2.ensures.ok c.in_ok-push_unsigned-2.ensures.ok
