use Rattle.std.proofs.Common.{◌∙◌, ap}
use Rattle.std.specs.Prelude.{Some, option_map}
use Rattle.gtm_data.specs.Facts.{fact_of}
use Rattle.page_world.specs.World.{after_fact, empty_world}
use Rattle.replay_engine.proofs.event_model.first_world.Goals as goal

pub returns : goal.returns
returns c =
    c.in_ok-fact.ensures.changed
    ∙ ap (option_map (after_fact (fact_of c.in_ok-names.names))) c.new-world.ensures
    ∙ ap (λ names. Some (after_fact names empty_world)) c.in_ok-names.ensures
