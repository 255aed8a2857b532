use Rattle.std.proofs.Common.{◌≡◌, ◌≤◌, get_or, arith, ap}
use Rattle.serde_json.specs.Data.{depth, items_depth}
use Rattle.serde_json.specs.View.{view, items_view}
use Rattle.export_fields.proofs.Depths.{get_depth, item_depth}
use Rattle.export_fields.proofs.params.+params.Goals as goal

pub nested_at-as_params-requires : goal.nested_at-as_params-requires
nested_at-as_params-requires t c =
    let less : depth (view c.in-Some.value.now) ≤ depth (view c.args.object.now) =
    get_depth c.args.key.now (view c.args.object.now) (view c.in-Some.value.now)
    c.in-Some.ensures in
    (omega arith, tt)

pub item_params-as_param-requires : goal.item_params-as_param-requires
item_params-as_param-requires t c =
    let xs = c.deref-item-items.result.now in
    let less : depth (view (get_or xs c.loop-at.at c.item-item.result))
    ≤ items_depth (items_view xs) =
    item_depth xs c.loop-at.at c.item-item.result c.loop-at-test.true in
    let here : depth (view c.item-item.result)
    ≡ depth (view (get_or xs c.loop-at.at c.item-item.result)) =
    ap (λ v. depth (view v)) c.item-item.is in
    let all : items_depth (items_view xs) ≡ items_depth (items_view c.args.items.now.items) =
    ap (λ vs. items_depth (items_view vs)) c.deref-item-items.ensures.value in
    (omega arith, tt)
