use Rattle.std.proofs.Common.{◌≡◌, ◌≤◌, length, drop}
use Rattle.gtm_data.specs.Tree.{trees_of, entries_of}
use Rattle.data_layer.specs.Merge as spec
use Rattle.data_layer.proofs.Items.{merge_from}
use Rattle.data_layer.proofs.merging.+merge.Given as goal

abbrev pub invariant-merge_items-loop-at : goal.invariant-merge_items-loop-at
invariant-merge_items-loop-at l = record {
  within : l.at ≤ length l.model;
  rest : merge_from l.at (trees_of (drop l.at l.items)) (trees_of l.model)
      ≡ spec.merge_items (trees_of l.items) (trees_of l.initial.model);
}

abbrev pub invariant-merge_members-loop-member : goal.invariant-merge_members-loop-member
invariant-merge_members-loop-member l =
    spec.merge_members (entries_of (drop l.member-index l.members.pairs)) (entries_of l.model.pairs)
    ≡ spec.merge_members (entries_of l.members.pairs) (entries_of l.initial.model.pairs)
