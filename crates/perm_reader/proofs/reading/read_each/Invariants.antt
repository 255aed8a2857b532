use Rattle.std.proofs.Common.{◌≡◌, drop}
use Rattle.gtm_data.specs.Tree.{trees_of}
use Rattle.perm_reader.specs.Readings.{plus, each}
use Rattle.perm_reader.proofs.reading.read_each.Given as goal

abbrev pub invariant-loop-item : goal.invariant-loop-item
invariant-loop-item l =
    plus l.out (each l.kind (trees_of (drop l.item-index l.items)))
    ≡ plus l.fn.out (each l.kind (trees_of l.items))
