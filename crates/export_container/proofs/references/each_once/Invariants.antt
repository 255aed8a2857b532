use Rattle.std.proofs.Common.{◌≡◌, ◌++◌, drop}
use Rattle.export_container.specs.References.{firsts_from, each_once}
use Rattle.export_container.proofs.references.each_once.Given as goal

abbrev pub invariant-loop-at : goal.invariant-loop-at
invariant-loop-at l =
    l.made ++ firsts_from l.texts l.at (drop l.at l.texts) ≡ each_once l.texts
