-- A world whose page was changed.
use Rattle.std.proofs.Common.{◌≡◌, ℕ, List, Option, Some, None, option_map, Bool, false, refl, ap}
use Rattle.std.proofs.Common.{if◌then◌else◌, sym, ◌∙◌}
use Rattle.data_layer.specs.Layer as layer
use Rattle.gtm_data.specs.declared.data.Data.{Data}
use Rattle.gtm_data.specs.Facts.{Fact}
use Rattle.page_world.specs.Facts.{page_after}
use Rattle.page_world.specs.Known.{Known, page_of, seen}
use Rattle.page_world.specs.Page.{PageState}
use Rattle.page_world.specs.World.{WorldState, after_fact}
use Rattle.page_world.specs.declared.page.Page.{Page}

abbrev Held : Type 0
Held = Option (Data × List (List ℕ × Data))

-- the world of a page and a layer, where the layer is there
abbrev pub world_of : PageState → Option layer.LayerState → Option WorldState
world_of page held = option_map (λ layer. record { page = page; layer = layer }) held

after_of : (fact : Fact) (page : PageState) (held : Option layer.LayerState)
    → world_of (page_after fact page) held ≡ option_map (after_fact fact) (world_of page held)
unfolding after_fact
after_of fact page None = refl
after_of fact page (Some layer) = refl

pub fact_taken : (fact : Fact) (before after : Page) (held : Held) (spent : Bool)
    (now : Option Known)
    → page_of after ≡ page_after fact (page_of before) → spent ≡ false
    → (if spent then None else Some (record { page = before; layer = held })) ≡ now
    → world_of (page_of after) (layer.seen held) ≡ option_map (after_fact fact) (seen now)
fact_taken fact before after held spent now taken fresh is =
    let known : Some (record { page = before; layer = held }) ≡ now =
    ap (λ b. if b then None else Some (record { page = before; layer = held })) (sym fresh) ∙ is in
    ap (λ page. world_of page (layer.seen held)) taken
    ∙ after_of fact (page_of before) (layer.seen held)
    ∙ ap (λ value. option_map (after_fact fact) (seen value)) known
