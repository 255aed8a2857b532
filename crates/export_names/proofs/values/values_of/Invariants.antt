use Rattle.std.proofs.Common.{◌≡◌, take}
use Rattle.export_names.specs.Values.{values_of}
use Rattle.export_names.proofs.values.values_of.Given as goal

abbrev pub invariant-loop-param : goal.invariant-loop-param
invariant-loop-param l = l.made ≡ values_of (take l.param-index l.params)
