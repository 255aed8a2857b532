use Rattle.std.proofs.Common.{subst, ◌∙◌, codes}
use Rattle.export_model.specs.Graphs.{variable_graph}
use Rattle.export_reader.proofs.Untold.{untold}
use Rattle.export_reader.specs.Rules.{entry_path}
use Rattle.reference_cycles.specs.Graph.{HasNoCycle, IsFirstOnCycle}
use Rattle.std.specs.Prelude.{MatchOption}
use Rattle.export_reader.proofs.cycles.variable_cycle.Goals as goal

pub returns-clause-none : goal.returns-clause-none
returns-clause-none c =
    untold (variable_graph c.args.container.now) (entry_path (codes "variable")) c.in_ok-found.found
    c.entry_path.result
    (subst (λ graph. MatchOption c.in_ok-found.found (HasNoCycle graph) (IsFirstOnCycle graph))
    (c.as_slice.ensures ∙ c.in_ok-graph.ensures) c.in_ok-found.ensures.found)
    c.entry_path.ensures
