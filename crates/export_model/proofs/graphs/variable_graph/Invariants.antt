use Rattle.std.proofs.Common.{◌≡◌, map, take}
use Rattle.std.specs.List.{filter_map}
use Rattle.export_model.specs.Graphs.{variable_at}
use Rattle.export_model.specs.Names.{names_of_variable}
use Rattle.export_model.proofs.graphs.variable_graph.Given as goal

abbrev pub invariant-loop-variable : goal.invariant-loop-variable
invariant-loop-variable l =
    l.graph ≡ map (λ variable. filter_map variable_at (names_of_variable variable))
    (take l.variable-index l.variable-items)
