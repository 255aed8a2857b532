-- The data layer: what a message does to the model and to the values of version 1.
use Rattle.std.specs.Prelude.{ℕ, ◌+◌, nat_lt, ◌==◌, List, [], ◌∷◌, length, Bool, true, false, ◌||◌}
use Rattle.std.specs.Prelude.{Option, Some, None, if◌then◌else◌}
use Rattle.gtm_data.specs.declared.data.Data.{Data}
use Rattle.gtm_data.specs.declared.limits.TheConstants.{MAX_DEPTH}
use Rattle.gtm_data.specs.Tree.{Tree, object, Entries, none, entry, depth, tree_of, entries_of}
use Rattle.gtm_data.specs.Paths.{dotted, walk, member}
use Rattle.gtm_data.specs.Distinct.{Distinct, DistinctEntries}
use Rattle.data_layer.specs.Merge.{merge, put}

-- the merged model, and the value that the last message with a whole key gave it
pub record LayerState : Type 0 where
  pub model : Tree
  pub version_one : Entries

-- before the first message
abbrev pub empty_layer : LayerState
empty_layer = record { model = object none; version_one = none }

-- no Map of the model, and none of the values of version 1, has a key twice, and no two of those
-- values have the same key
pub record DistinctLayer (layer : LayerState) : Type 0 where
  pub model : Distinct layer.model
  pub version_one : DistinctEntries layer.version_one

-- the value nested in Maps under the parts of its key
abbrev pub nest : List (List ℕ) → Tree → Tree
nest [] v = v
nest (part ∷ parts) v = object (entry part (nest parts v) none)

-- some member's key parts and depth are together over the depth that data may have
abbrev pub is_too_deep : Entries → Bool
is_too_deep none = false
is_too_deep (entry key v es) = nat_lt MAX_DEPTH (length (dotted key) + depth v) || is_too_deep es

-- a message that is no Map, or that would nest too deep, is ignored
abbrev pub is_ignored : Tree → Bool
is_ignored (object es) = is_too_deep es
is_ignored _ = true

-- the model after each member was merged in turn, nested under the parts of its key
unfoldable pub after_members : Entries → Tree → Tree
after_members none model = model
after_members (entry key v es) model = after_members es (merge (nest (dotted key) v) model)

-- the values of version 1 after each member in turn
unfoldable pub version_one_after : Entries → Entries → Entries
version_one_after none old = old
version_one_after (entry key v es) old = version_one_after es (put key (λ _. v) v old)

-- the layer after a message
abbrev pub after_message : Tree → LayerState → LayerState
after_message (object es) layer =
    if is_too_deep es then layer
    else record {
      model =
          after_members es layer.model;
      version_one = version_one_after es layer.version_one;
    }
after_message _ layer = layer

-- the value of a key: in version 1 that of the whole key, in any other that at the dotted path
abbrev pub layer_value : List ℕ → ℕ → LayerState → Option Tree
layer_value key version layer =
    if version == 1 then member key layer.version_one else walk (dotted key) layer.model

-- what a `Layer` holds, or nothing once memory was wanting
abbrev pub seen : Option (Data × List (List ℕ × Data)) → Option LayerState
seen None = None
seen (Some layer) = Some (record { model = tree_of layer.0; version_one = entries_of layer.1 })
