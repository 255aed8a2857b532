use Rattle.std.proofs.Common.{◌≡◌, ◌++◌, drop}
use Rattle.gtm_data.specs.Tree.{trees_of}
use Rattle.perm_reader.specs.Parts.{texts_in, others_warned}
use Rattle.perm_reader.specs.Readings.{plus}
use Rattle.perm_reader.proofs.parts.read_texts.Given as goal

abbrev pub invariant-loop-item : goal.invariant-loop-item
invariant-loop-item l = record {
  texts :
      l.texts ++ texts_in (trees_of (drop l.item-index l.items)) ≡ texts_in (trees_of l.items);
  warned :
      plus l.out (others_warned (trees_of (drop l.item-index l.items)))
      ≡ plus l.fn.out (others_warned (trees_of l.items));
}
