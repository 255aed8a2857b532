use Rattle.std.proofs.Common.{◌≡◌, List, ◌++◌, take, map}
use Rattle.serde_json.specs.View.{view, members_view}
use Rattle.serde_json.proofs.Views.{Entry}
use Rattle.gtm_data.specs.Plain.{tree_in, entries_in}
use Rattle.gtm_data.specs.Tree.{tree_of, entries_of}
use Rattle.gtm_data.proofs.reading.+convert.Given as goal

abbrev pub invariant-convert_items-loop-item : goal.invariant-convert_items-loop-item
invariant-convert_items-loop-item l =
    map tree_of l.made ≡ map (λ v. tree_in (view v)) (take l.item-index l.item-items)

abbrev pub invariant-convert_members-loop-key : goal.invariant-convert_members-loop-key
invariant-convert_members-loop-key l =
    (done : List Entry) × (l.members.entries ≡ done ++ l.key-iterator)
    × (entries_of l.made.pairs ≡ entries_in (members_view done))
