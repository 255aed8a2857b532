use Rattle.replay_engine.proofs.Openings.{opened_before, opened_once, stays_begun}
use Rattle.replay_engine.proofs.laws.a_page_is_initialised_once.Goals as goal

pub returns-clause-before : goal.returns-clause-before
returns-clause-before c state first messages is waiting =
    opened_before state first messages is waiting

pub returns-clause-once : goal.returns-clause-once
returns-clause-once c state is = opened_once state is

pub returns-clause-stays : goal.returns-clause-stays
returns-clause-stays c state steps is = stays_begun state steps is
