use Rattle.std.proofs.Common.{◌≡◌, ◌+◌, ◌*◌, ◌++◌, drop}
use Rattle.serde_json.specs.Data.{depth, items_depth}
use Rattle.serde_json.specs.View.{view, items_view}
use Rattle.export_fields.specs.Params.{item_params_fault, item_params}
use Rattle.export_fields.proofs.params.+params.Given as goal

abbrev pub decreases-as_param : goal.decreases-as_param
decreases-as_param l = 4 * depth (view l.value.now) + 3

abbrev pub decreases-nested_at : goal.decreases-nested_at
decreases-nested_at l = 4 * depth (view l.object.now) + 2

abbrev pub decreases-as_params : goal.decreases-as_params
decreases-as_params l = 4 * depth (view l.value.now) + 1

abbrev pub decreases-item_params : goal.decreases-item_params
decreases-item_params l = 4 * items_depth (items_view l.items.now.items) + 4

abbrev pub invariant-item_params-loop-at : goal.invariant-item_params-loop-at
invariant-item_params-loop-at l = record {
  fault : item_params_fault l.at (items_view (drop l.at l.item-items))
      ≡ item_params_fault 0 (items_view l.items.items);
  value : l.made ++ item_params (items_view (drop l.at l.item-items))
      ≡ item_params (items_view l.items.items);
}
