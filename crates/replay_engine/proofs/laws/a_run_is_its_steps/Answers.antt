use Rattle.replay_engine.proofs.Runs.{texts}
use Rattle.replay_engine.proofs.laws.a_run_is_its_steps.Goals as goal

pub returns : goal.returns
returns c state steps none = texts state steps none
