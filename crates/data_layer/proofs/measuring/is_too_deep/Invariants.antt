use Rattle.std.proofs.Common.{◌≡◌, drop}
use Rattle.gtm_data.specs.Tree.{entries_of}
use Rattle.data_layer.specs.Layer.{is_too_deep}
use Rattle.data_layer.proofs.measuring.is_too_deep.Given as goal

abbrev pub invariant-loop-member : goal.invariant-loop-member
invariant-loop-member l =
    is_too_deep (entries_of (drop l.member-index l.member-items))
    ≡ is_too_deep (entries_of l.members.pairs)
