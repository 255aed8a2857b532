use Rattle.std.proofs.Common.{subst}
use Rattle.std.specs.Prelude.{Some, None}
use Rattle.reference_cycles.proofs.Closures.{Answers, first_cycle_answers, one_answer}
use Rattle.reference_cycles.specs.Closure.{first_cycle}
use Rattle.reference_cycles.proofs.laws.the_closure_has_the_first_cycle.Goals as goal

pub returns-clause-first : goal.returns-clause-first
returns-clause-first c graph place = (
  (λ is. let answer : Answers graph (Some place) =
      subst (Answers graph) is (first_cycle_answers graph) in answer),
  one_answer graph (first_cycle graph) (Some place) (first_cycle_answers graph),
)

pub returns-clause-none : goal.returns-clause-none
returns-clause-none c graph = (
  (λ is. let answer : Answers graph None = subst (Answers graph) is (first_cycle_answers graph) in
      answer),
  one_answer graph (first_cycle graph) None (first_cycle_answers graph),
)
