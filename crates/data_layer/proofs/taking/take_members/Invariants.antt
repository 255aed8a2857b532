use Rattle.std.proofs.Common.{◌≡◌, drop}
use Rattle.gtm_data.specs.Tree.{tree_of, entries_of}
use Rattle.data_layer.specs.Layer.{after_members, version_one_after}
use Rattle.data_layer.proofs.taking.take_members.Given as goal

abbrev pub invariant-loop-member : goal.invariant-loop-member
invariant-loop-member l = record {
  merged : after_members (entries_of (drop l.member-index l.members.pairs)) (tree_of l.model)
      ≡ after_members (entries_of l.members.pairs) (tree_of l.initial.model);
  put : version_one_after (entries_of (drop l.member-index l.members.pairs))
      (entries_of l.version_one.pairs)
      ≡ version_one_after (entries_of l.members.pairs) (entries_of l.initial.version_one.pairs);
}
