use Rattle.std.proofs.Common.{◌≡◌, ◌≤◌, ◌+◌, min, max, drop}
use Rattle.gtm_data.specs.declared.limits.TheConstants.{MAX_DEPTH}
use Rattle.gtm_data.specs.Tree.{trees_of, entries_of, items_depth, members_depth}
use Rattle.data_layer.proofs.measuring.+depth.Given as goal

abbrev pub invariant-items_depth-loop-item : goal.invariant-items_depth-loop-item
invariant-items_depth-loop-item l = record {
  small : l.greatest ≤ MAX_DEPTH + 1;
  rest : min (MAX_DEPTH + 1)
      (max l.greatest (items_depth (trees_of (drop l.item-index l.item-items))))
      ≡ min (MAX_DEPTH + 1) (items_depth (trees_of l.items));
}

abbrev pub invariant-members_depth-loop-member : goal.invariant-members_depth-loop-member
invariant-members_depth-loop-member l = record {
  small : l.greatest ≤ MAX_DEPTH + 1;
  rest : min (MAX_DEPTH + 1)
      (max l.greatest (members_depth (entries_of (drop l.member-index l.member-items))))
      ≡ min (MAX_DEPTH + 1) (members_depth (entries_of l.members.pairs));
}
