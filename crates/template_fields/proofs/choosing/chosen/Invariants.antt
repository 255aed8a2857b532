use Rattle.std.proofs.Common.{◌≡◌, ◌++◌, drop}
use Rattle.std.specs.Prelude.{map}
use Rattle.gtm_base.specs.KeysStay.{on_value}
use Rattle.gtm_data.specs.Tree.{tree_of, entries_of}
use Rattle.template_fields.specs.Fields.{names_of, chosen}
use Rattle.template_fields.proofs.Chosen.{AreEarlier}
use Rattle.template_fields.proofs.choosing.chosen.Given as goal

abbrev pub invariant-loop-at : goal.invariant-loop-at
invariant-loop-at l = record {
  same :
      map (on_value tree_of) l.made.pairs
      ++ chosen (names_of l.fields) l.at (drop l.at l.fields) (entries_of l.members.pairs)
      ≡ chosen (names_of l.fields) 0 l.fields (entries_of l.members.pairs);
  earlier : AreEarlier (names_of l.fields) l.at l.made.pairs;
}
