use Rattle.replay_engine.proofs.event_model.EventModel.begin.Goals as goal

pub returns-in-Fact-clause-asked : goal.returns-in-Fact-clause-asked
returns-in-Fact-clause-asked g c = rw c.in-Fact.is c.take_fact.ensures.asked
