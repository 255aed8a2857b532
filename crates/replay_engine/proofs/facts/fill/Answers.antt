use Rattle.replay_engine.proofs.JobTurns.{error_is}
use Rattle.replay_engine.proofs.Refusals.{refuses_only}
use Rattle.replay_engine.proofs.facts.fill.Goals as goal

pub returns-in_err-url_address-in-Page-clause-asked :
    goal.returns-in_err-url_address-in-Page-clause-asked
returns-in_err-url_address-in-Page-clause-asked g c =
    rw c.in-Page.is
    (refuses_only _ c.in_err-url_address-in-Page.field-0.0
    (error_is _ _ c.from_residual.ensures.1) _
    c.in_err-url_address-in-Page.ensures.asked)
