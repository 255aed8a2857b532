use Rattle.std.proofs.Common.{subst}
use Rattle.std.specs.Prelude.{IfNone}
use Rattle.export_model.specs.Graphs.{variable_graph, group_graph}
use Rattle.reference_cycles.specs.Graph.{HasNoCycle}
use Rattle.export_reader.proofs.entries.judge_container.Goals as goal

pub judge_texts-requires-clause-consistent : goal.judge_texts-requires-clause-consistent
judge_texts-requires-clause-consistent c =
    let made = c.in_ok-container.container in
    record {
      small = c.in_ok-container.ensures.small;
      in_range = c.in_ok-container.ensures.in_range;
      no_variable_cycle =
          subst (λ path. IfNone path (HasNoCycle (variable_graph made))) c.in_default.is
          c.in_ok-path.ensures.none;
      no_group_cycle =
          subst (λ path. IfNone path (HasNoCycle (group_graph made))) c.in_default-2.is
          c.in_ok-path-2.ensures.none;
    }
