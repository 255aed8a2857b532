use Rattle.std.proofs.Common.{◌≡◌, map, take}
use Rattle.std.specs.List.{filter_map}
use Rattle.export_model.specs.Graphs.{trigger_at}
use Rattle.export_model.proofs.graphs.group_graph.Given as goal

abbrev pub invariant-loop-trigger : goal.invariant-loop-trigger
invariant-loop-trigger l =
    l.graph ≡ map (λ trigger. filter_map trigger_at trigger.members)
    (take l.trigger-index l.trigger-items)
