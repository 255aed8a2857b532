use Rattle.std.proofs.Common.{◌≡◌, ◌++◌, drop}
use Rattle.std.specs.List.{filter_map}
use Rattle.export_model.specs.Graphs.{trigger_at}
use Rattle.export_model.proofs.graphs.own_members.Given as goal

abbrev pub invariant-loop-member : goal.invariant-loop-member
invariant-loop-member l =
    l.places ++ filter_map trigger_at (drop l.member-index l.member-items)
    ≡ filter_map trigger_at l.members
