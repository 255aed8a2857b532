use Rattle.gtm_data.specs.Facts.{fact_of}
use Rattle.page_world.proofs.Takes.{fact_taken}
use Rattle.page_world.proofs.world.World.fact.Goals as goal

pub returns-clause-changed : goal.returns-clause-changed
returns-clause-changed c =
    fact_taken (fact_of c.args.fact) c.self.inside.page c.take_fact.new.page c.self.inside.layer
    c.self.inside.spent c.args.self.now c.in_ok-take_fact.ensures c.if-self.false c.self.view_is
