use Rattle.std.proofs.Common.{◌≡◌, drop}
use Rattle.serde_json.specs.View.{items_view}
use Rattle.export_reader.specs.Rules.{has_web}
use Rattle.export_reader.proofs.contexts.has_web.Given as goal

abbrev pub invariant-loop-item : goal.invariant-loop-item
invariant-loop-item l =
    has_web (items_view (drop l.item-index l.item-items)) ≡ has_web (items_view l.items.items)
