use Rattle.std.proofs.Common.{◌≡◌, ◌++◌, drop}
use Rattle.gtm_data.specs.Tree.{trees_of, entries_of}
use Rattle.template_fields.specs.Fields.{fields_below, sub_fields, radio_fields, radios_fields}
use Rattle.template_fields.proofs.fields.+fields.Given as goal

abbrev pub invariant-put_fields-loop-item : goal.invariant-put_fields-loop-item
invariant-put_fields-loop-item l =
    l.out ++ fields_below (trees_of (drop l.item-index l.items))
    ≡ l.fn.out ++ fields_below (trees_of l.items)

abbrev pub invariant-put_radio_items-loop-item : goal.invariant-put_radio_items-loop-item
invariant-put_radio_items-loop-item l =
    l.out ++ radios_fields (trees_of (drop l.item-index l.items))
    ≡ l.fn.out ++ radios_fields (trees_of l.items)

abbrev pub invariant-put_subs-loop-member : goal.invariant-put_subs-loop-member
invariant-put_subs-loop-member l = record {
  out : l.out ≡ l.fn.out;
  same :
      sub_fields (entries_of (drop l.member-index l.member-items))
      ≡ sub_fields (entries_of l.fn.members.pairs);
}

abbrev pub invariant-put_radios-loop-member : goal.invariant-put_radios-loop-member
invariant-put_radios-loop-member l = record {
  out : l.out ≡ l.fn.out;
  same :
      radio_fields (entries_of (drop l.member-index l.member-items))
      ≡ radio_fields (entries_of l.fn.members.pairs);
}
