-- The world of a page: what is known of it, and its data layer.
use Rattle.data_layer.specs.Layer.{LayerState, empty_layer}
use Rattle.gtm_data.specs.Facts.{Fact}
use Rattle.page_world.specs.Facts.{page_after}
use Rattle.page_world.specs.Page.{PageState, empty_page}

-- the world, with trees for values
pub record WorldState : Type 0 where
  pub page : PageState
  pub layer : LayerState

-- before the first fact and the first message
abbrev pub empty_world : WorldState
empty_world = record { page = empty_page; layer = empty_layer }

-- the world with what is known of the page changed
abbrev pub on_page : (PageState → PageState) → WorldState → WorldState
on_page change world = record world { page = change world.page }

-- the world with the data layer changed
abbrev pub on_layer : (LayerState → LayerState) → WorldState → WorldState
on_layer change world = record world { layer = change world.layer }

-- the world after a fact of the page
unfoldable pub after_fact : Fact → WorldState → WorldState
after_fact fact world = on_page (page_after fact) world
