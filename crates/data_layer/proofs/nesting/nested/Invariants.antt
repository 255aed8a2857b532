use Rattle.std.proofs.Common.{◌≡◌, length}
use Rattle.std.specs.Str.{chars}
use Rattle.gtm_data.specs.Paths.{dotted}
use Rattle.gtm_data.specs.Tree.{tree_of}
use Rattle.data_layer.specs.Layer.{nest}
use Rattle.data_layer.proofs.nesting.nested.Given as goal

abbrev pub invariant-loop-part : goal.invariant-loop-part
invariant-loop-part l =
    nest l.parts (tree_of l.made) ≡ nest (dotted (chars l.fn.key)) (tree_of l.fn.value)

abbrev pub decreases-loop-part : goal.decreases-loop-part
decreases-loop-part l = length l.parts
