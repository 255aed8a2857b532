use Rattle.std.proofs.Common.{◌≡◌, ◌+◌, drop, map, nat_lt}
use Rattle.std.specs.List.{list_any}
use Rattle.gtm_data.specs.declared.limits.TheConstants.{MAX_DEPTH}
use Rattle.gtm_data.specs.Tree.{tree_of, depth}
use Rattle.data_layer.proofs.commands.nest_too_deep.Given as goal

abbrev pub invariant-loop-item : goal.invariant-loop-item
invariant-loop-item l =
    list_any (λ t. nat_lt MAX_DEPTH (depth t + l.parts + 1))
    (map tree_of (drop l.item-index l.items))
    ≡ list_any (λ t. nat_lt MAX_DEPTH (depth t + l.parts + 1)) (map tree_of l.items)
