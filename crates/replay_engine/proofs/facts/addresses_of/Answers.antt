use Rattle.replay_engine.proofs.JobTurns.{error_is}
use Rattle.replay_engine.proofs.Refusals.{refuses_last}
use Rattle.replay_engine.proofs.facts.addresses_of.Goals as goal

pub returns-in_err-second-clause-asked : goal.returns-in_err-second-clause-asked
returns-in_err-second-clause-asked g c =
    refuses_last _ c.in_err-second.field-0.0 (error_is _ _ c.from_residual-in_err-second.ensures.1)
    _ _ c.in_err-second.ensures.asked
