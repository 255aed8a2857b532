use Rattle.std.proofs.Common.{◌≡◌, drop}
use Rattle.serde_json.specs.View.{items_view, members_view}
use Rattle.gtm_data.specs.Plain.{item_nodes, member_nodes, first_path, is_unfit_at}
use Rattle.gtm_data.proofs.refusing.+not_whole.Given as goal

abbrev pub invariant-items_not_whole-loop-at : goal.invariant-items_not_whole-loop-at
invariant-items_not_whole-loop-at l =
    first_path is_unfit_at (item_nodes l.at (items_view (drop l.at l.item-items)))
    ≡ first_path is_unfit_at (item_nodes 0 (items_view l.items.items))

abbrev pub invariant-members_not_whole-loop-key : goal.invariant-members_not_whole-loop-key
invariant-members_not_whole-loop-key l =
    first_path is_unfit_at (member_nodes (members_view l.key-iterator))
    ≡ first_path is_unfit_at (member_nodes (members_view l.members.entries))
