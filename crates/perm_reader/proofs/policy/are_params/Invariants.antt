use Rattle.std.proofs.Common.{◌≡◌, drop}
use Rattle.gtm_data.specs.Tree.{trees_of}
use Rattle.perm_reader.specs.Policies.{are_params}
use Rattle.perm_reader.proofs.policy.are_params.Given as goal

abbrev pub invariant-loop-param : goal.invariant-loop-param
invariant-loop-param l =
    are_params (trees_of (drop l.param-index l.params)) ≡ are_params (trees_of l.params)
