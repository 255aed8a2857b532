-- A moment, and what a name stands for in it.
use Rattle.std.specs.Prelude.{ℕ, List, Option, None, unwrap_or, slice_index_or}
use Rattle.std.specs.Option.{option_map_or}
use Rattle.data_layer.specs.Layer.{LayerState, empty_layer, seen}
use Rattle.export_model.specs.declared.container.Container.{Container}
use Rattle.gtm_data.specs.declared.data.Data.{Data}
use Rattle.gtm_data.specs.Tree.{Tree, undefined, tree_of}
use Rattle.page_world.specs.Known.{page_of}
use Rattle.page_world.specs.World.{WorldState}
use Rattle.variable_kinds.specs.declared.names.Names.{Names}

-- what the values at an event are taken from
pub record Moment : Type 0 where
  pub container : Container
  pub world : WorldState
  -- the name of the event
  pub event : List ℕ

-- what a layer holds that is not spent
abbrev pub layer_in : Option (Data × List (List ℕ × Data)) → LayerState
layer_in layer = unwrap_or (seen layer) empty_layer

-- the moment of these names
abbrev pub moment_of : Names → Moment
moment_of names = record {
  container = names.container.now;
  world = record { page = page_of names.page.now; layer = layer_in names.layer.now };
  event = names.event.now;
}

-- the value that is kept at a place, Undefined where none is
abbrev pub kept_at : List (Option Data) → ℕ → Tree
kept_at kept at = option_map_or tree_of (slice_index_or kept at None) undefined
