use Rattle.std.proofs.Common.{◌≡◌, drop}
use Rattle.gtm_data.specs.Tree.{trees_of}
use Rattle.perm_reader.specs.Values.{param_of}
use Rattle.perm_reader.proofs.values.param.Given as goal

abbrev pub invariant-loop-param : goal.invariant-loop-param
invariant-loop-param l =
    param_of l.name (trees_of (drop l.param-index l.params)) ≡ param_of l.name (trees_of l.params)
