use Rattle.std.proofs.Common.{◌≡◌, ◌+◌, ◌-◌, ℕ, false, vec_len}
use Rattle.std.specs.Prelude.{slice_index_or}
use Rattle.fired_tags.proofs.marks.reach.Given as goal

abbrev pub invariant-loop-marks : goal.invariant-loop-marks
invariant-loop-marks l =
    (other : ℕ) → slice_index_or l.marks.items other false
    ≡ slice_index_or l.fn.marks.items other false

abbrev pub decreases-loop-marks : goal.decreases-loop-marks
decreases-loop-marks l = (l.at + 1) - vec_len l.marks
