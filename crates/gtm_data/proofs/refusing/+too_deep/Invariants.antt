use Rattle.std.proofs.Common.{◌≡◌, ◌+◌, drop}
use Rattle.serde_json.specs.View.{items_view, members_view}
use Rattle.gtm_data.specs.Plain.{item_nodes, member_nodes, first_path, is_nest_below}
use Rattle.gtm_data.proofs.refusing.+too_deep.Given as goal

abbrev pub invariant-items_too_deep-loop-at : goal.invariant-items_too_deep-loop-at
invariant-items_too_deep-loop-at l =
    first_path (is_nest_below (l.allowed + 1))
    (item_nodes l.at (items_view (drop l.at l.item-items)))
    ≡ first_path (is_nest_below (l.allowed + 1)) (item_nodes 0 (items_view l.items.items))

abbrev pub invariant-members_too_deep-loop-key : goal.invariant-members_too_deep-loop-key
invariant-members_too_deep-loop-key l =
    first_path (is_nest_below (l.allowed + 1)) (member_nodes (members_view l.key-iterator))
    ≡ first_path (is_nest_below (l.allowed + 1)) (member_nodes (members_view l.members.entries))
