-- What the values at an event depend on.
use Rattle.std.specs.Prelude.{ℕ, List, unwrap_or, Option}
use Rattle.gtm_data.specs.Tree.{Tree}
use Rattle.page_world.specs.Known.{Known, seen}
use Rattle.page_world.specs.World.{WorldState, empty_world}
use Rattle.perm_model.specs.declared.endings.Outcome.{Outcome}
use Rattle.variable_kinds.specs.Moment.{Moment}
use Rattle.gtm_variables.specs.Calls.{Templates}

-- the moment, and what the templates of variables give in a world for their fields, and may ask
pub record Snapshot : Type 0 where
  pub moment : Moment
  pub outcome : ℕ → WorldState → Tree → Outcome
  pub texts : ℕ → WorldState → Tree → List (List ℕ)

-- a moment with what a caller's templates give
abbrev pub snapshot : Moment → Templates → Snapshot
snapshot moment templates = record {
  moment = moment;
  outcome = templates.outcome;
  texts = templates.texts;
}

-- what a world is that is not spent
abbrev pub world_in : Option Known → WorldState
world_in world = unwrap_or (seen world) empty_world
