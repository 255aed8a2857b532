use Rattle.replay_engine.proofs.Runs.{goes_on, stays_ended}
use Rattle.replay_engine.proofs.laws.runs_go_on.Goals as goal

pub returns-clause-goes_on : goal.returns-clause-goes_on
returns-clause-goes_on c state first rest none = goes_on state first rest none

pub returns-clause-ended : goal.returns-clause-ended
returns-clause-ended c state first rest number limit = stays_ended state first rest number limit
