use Rattle.std.proofs.Common.{◌≡◌, ◌++◌, length}
use Rattle.std.specs.Prelude.{option_map, reverse}
use Rattle.gtm_data.specs.Tree.{trees_of}
use Rattle.trace_forms.specs.Forms.{texts_in}
use Rattle.trace_forms.proofs.kinds.texts_in.Given as goal

abbrev pub invariant-loop-item : goal.invariant-loop-item
invariant-loop-item l =
    option_map (λ front. front ++ reverse l.texts) (texts_in (trees_of l.left))
    ≡ texts_in (trees_of l.initial.left)

abbrev pub decreases-loop-item : goal.decreases-loop-item
decreases-loop-item l = length l.left
