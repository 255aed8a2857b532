use Rattle.std.proofs.Common.{◌≡◌, ◌++◌, drop}
use Rattle.serde_json.specs.View.{items_view}
use Rattle.export_fields.specs.ListOf.{items_fault, items_made}
use Rattle.export_fields.proofs.lists.items_of.Given as goal

abbrev pub invariant-loop-at : goal.invariant-loop-at
invariant-loop-at g l = record {
  fault : items_fault g.T.Entry.fault l.at (items_view (drop l.at l.item-items))
      ≡ items_fault g.T.Entry.fault 0 (items_view l.items.items);
  value : l.made ++ items_made g.T.Entry.made (items_view (drop l.at l.item-items))
      ≡ items_made g.T.Entry.made (items_view l.items.items);
}
