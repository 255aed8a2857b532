use Rattle.std.proofs.Common.{◌≡◌}
use Rattle.data_layer.proofs.Parts.{texts}
use Rattle.data_layer.proofs.nesting.parts.Given as goal

abbrev pub invariant-loop-part : goal.invariant-loop-part
invariant-loop-part l = l.parts ≡ texts l.yielded
