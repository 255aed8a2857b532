use Rattle.std.proofs.Common.{◌≤◌, refl, arith}
use Rattle.std.specs.Prelude.{slice_index}
use Rattle.std.proofs.lemmas.List.Elements.{All-more}
use Rattle.reference_cycles.proofs.Leading.{of_all_references}
use Rattle.reference_cycles.proofs.first.refers_no_higher.Goals as goal

pub loop-to-preserved : goal.loop-to-preserved
loop-to-preserved c =
    let levels = c.args.levels.now in
    All-more (λ to. slice_index levels to ≤ slice_index levels c.args.place)
    c.references-places.result.now c.loop-to.to-index 0 c.loop-to-test.true c.loop-to.invariant
    (omega arith)

pub returns : goal.returns
returns c =
    let levels = c.args.levels.now in (
      (λ yes. of_all_references c.args.graph.now c.args.place c.references-places.result.now
          (λ to. slice_index levels to ≤ slice_index levels c.args.place)
          c.loop-to.to-index c.references-places.ensures c.loop-to-test.false c.loop-to.invariant),
      (λ lower. refl),
    )
