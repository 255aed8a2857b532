use Rattle.std.proofs.Common.{◌≡◌, ◌++◌, map}
use Rattle.data_layer.proofs.methods.push_backwards.Given as goal

abbrev pub invariant-loop-item : goal.invariant-loop-item
invariant-loop-item l = l.list ≡ l.initial.list ++ map (λ shown. shown.now) l.yielded
