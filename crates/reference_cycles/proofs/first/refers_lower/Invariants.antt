use Rattle.std.proofs.Common.{◌<◌, take}
use Rattle.std.specs.Prelude.{All, slice_index}
use Rattle.reference_cycles.proofs.first.refers_lower.Given as goal

abbrev pub invariant-loop-to : goal.invariant-loop-to
invariant-loop-to l =
    All (λ to. slice_index l.levels to < slice_index l.levels l.fn.place) (take l.to-index l.places)
