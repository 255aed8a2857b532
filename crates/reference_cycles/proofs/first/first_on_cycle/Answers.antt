use Rattle.std.proofs.Common.{ℕ, List}
use Rattle.reference_cycles.proofs.Closures.{first_cycle_answers, one_answer}
use Rattle.reference_cycles.specs.Closure.{first_cycle}
use Rattle.reference_cycles.proofs.first.first_on_cycle.Goals as goal

pub returns-clause-computed : goal.returns-clause-computed
returns-clause-computed c =
    let graph : List (List ℕ) = c.args.graph.now in
    one_answer graph c.in_ok-found.found (first_cycle graph) c.in_ok-found.ensures
    (first_cycle_answers graph)
