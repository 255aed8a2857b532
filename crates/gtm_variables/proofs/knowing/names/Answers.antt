use Rattle.std.proofs.Common.{◌≡◌, Option, Some, None}
use Rattle.std.specs.Prelude.{IfSome, IsSome, unwrap_or}
use Rattle.data_layer.specs.Layer as layer
use Rattle.gtm_data.specs.declared.data.Data.{Data}
use Rattle.page_world.specs.Page.{PageState}
use Rattle.page_world.specs.World.{WorldState, empty_world}
use Rattle.variable_kinds.specs.Moment.{layer_in}
use Rattle.gtm_variables.proofs.knowing.names.Goals as goal
use Rattle.page_world.specs.Known.{page_of, seen}
use Rattle.std.specs.Prelude.{List, ℕ}

-- the page and the layer of a world that is not spent
whole : (world : Option WorldState) (page : PageState)
    (held : Option (Data × List (List ℕ × Data))) → IsSome world
    → IfSome world (λ w. page ≡ w.page) → IfSome world (λ w. layer.seen held ≡ Some w.layer)
    → (let made : WorldState = record { page = page; layer = layer_in held } in made)
    ≡ unwrap_or world empty_world
whole None page held told pages layers = absurd cc
whole (Some world) page held told pages layers = λ i. record {
  page = pages i;
  layer = unwrap_or (layers i) layer.empty_layer;
}

pub returns-clause-moment : goal.returns-clause-moment
returns-clause-moment c =
    let values = c.args.values.now in
    λ i. record {
      container = values.container.now;
      world = whole (seen values.world.now) (page_of c.page.result.now) c.layer.result.now
          values.told c.page.ensures c.layer.ensures i;
      event = values.event.now;
    }
