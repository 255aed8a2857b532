use Rattle.std.proofs.Common.{◌≡◌, ◌++◌, take, map}
use Rattle.export_container.specs.Conditions.{condition_of}
use Rattle.export_container.proofs.conditions.push_conditions.Given as goal

abbrev pub invariant-loop-condition : goal.invariant-loop-condition
invariant-loop-condition l =
    l.made ≡ l.initial.made ++ map (condition_of l.names) (take l.condition-index l.written)
