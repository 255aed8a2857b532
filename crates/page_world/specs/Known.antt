-- A world in values of the program, as contracts see it.
use Rattle.std.specs.Prelude.{ℕ, List, Option, Some, None, option_map}
use Rattle.data_layer.specs.Layer as layer
use Rattle.gtm_data.specs.declared.data.Data.{Data}
use Rattle.gtm_data.specs.Tree.{tree_of}
use Rattle.page_world.specs.Page.{PageState}
use Rattle.page_world.specs.Returned.{returned_in}
use Rattle.page_world.specs.World.{WorldState}
use Rattle.page_world.specs.declared.page.Page.{Page}

-- what is known of the page, and what its data layer holds, which is nothing once memory was
-- wanting there
pub record Known : Type 0 where
  pub page : Page
  pub layer : Option (Data × List (List ℕ × Data))

-- what is known of a page, with trees for values
abbrev pub page_of : Page → PageState
page_of page = record {
  url = page.url;
  url_address = page.url_address;
  referrer = page.referrer;
  referrer_address = page.referrer_address;
  title = page.title;
  charset = page.charset;
  region = page.region;
  time = page.time;
  public_id = page.public_id;
  version_id = page.version_id;
  cookies = page.cookies.pairs;
  globals = tree_of page.globals;
  returns = returned_in page.returns;
}

-- the world that a `World` holds, or nothing once memory was wanting
abbrev pub seen : Option Known → Option WorldState
seen None = None
seen (Some known) =
    option_map (λ layer. record { page = page_of known.page; layer = layer })
    (layer.seen known.layer)
