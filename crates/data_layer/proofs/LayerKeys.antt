-- A message in which no Map has a key twice leaves a layer in which none has.
use Rattle.std.proofs.Common.{ℕ, List, [], ◌∷◌, Bool, true, false, if◌then◌else◌, refl}
use Rattle.gtm_data.specs.Tree.{Tree, object, Entries, none, entry}
use Rattle.gtm_data.specs.Paths.{dotted}
use Rattle.gtm_data.specs.Distinct.{Distinct, DistinctEntries}
use Rattle.data_layer.specs.Layer.{LayerState, DistinctLayer, nest, is_too_deep, after_members}
use Rattle.data_layer.specs.Layer.{version_one_after, after_message}
use Rattle.data_layer.specs.Merge.{merge, put}
use Rattle.data_layer.proofs.MergedKeys.{merge_distinct, put_distinct}

nest_distinct : (parts : List (List ℕ)) (v : Tree) → Distinct v → Distinct (nest parts v)
nest_distinct [] v distinct = distinct
nest_distinct (part ∷ parts) v distinct = (refl, nest_distinct parts v distinct, tt)

model_distinct : (es : Entries) (model : Tree) → DistinctEntries es → Distinct model
    → Distinct (after_members es model)
unfolding after_members
model_distinct none model distinct_es distinct_model = distinct_model
model_distinct (entry key v es) model distinct_es distinct_model =
    model_distinct es (merge (nest (dotted key) v) model) distinct_es.2
    (merge_distinct (nest (dotted key) v) model (nest_distinct (dotted key) v distinct_es.1)
    distinct_model)

version_one_distinct : (es old : Entries) → DistinctEntries es → DistinctEntries old
    → DistinctEntries (version_one_after es old)
unfolding version_one_after
version_one_distinct none old distinct_es distinct_old = distinct_old
version_one_distinct (entry key v es) old distinct_es distinct_old =
    version_one_distinct es (put key (λ _. v) v old) distinct_es.2
    (put_distinct key (λ _. v) v (λ m distinct. distinct_es.1) distinct_es.1 old distinct_old)

distinct_if : (ignored : Bool) (es : Entries) (layer : LayerState) → DistinctEntries es
    → DistinctLayer layer
    → DistinctLayer
    (if ignored then layer
    else record {
      model =
          after_members es layer.model;
      version_one = version_one_after es layer.version_one;
    })
distinct_if true es layer distinct_es distinct = distinct
distinct_if false es layer distinct_es distinct = record {
  model = model_distinct es layer.model distinct_es distinct.model;
  version_one = version_one_distinct es layer.version_one distinct_es distinct.version_one;
}

pub message_distinct : (message : Tree) (layer : LayerState) → Distinct message
    → DistinctLayer layer → DistinctLayer (after_message message layer)
message_distinct (object es) layer distinct_es distinct =
    distinct_if (is_too_deep es) es layer distinct_es distinct
message_distinct _ layer distinct_es distinct = distinct
