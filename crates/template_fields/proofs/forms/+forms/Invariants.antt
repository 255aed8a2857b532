use Rattle.std.proofs.Common.{◌≡◌, drop}
use Rattle.gtm_data.specs.Tree.{trees_of, entries_of}
use Rattle.template_fields.specs.Forms.{are_fields, has_subs, has_radios, are_radios}
use Rattle.template_fields.proofs.forms.+forms.Given as goal

abbrev pub invariant-are_fields-loop-item : goal.invariant-are_fields-loop-item
invariant-are_fields-loop-item l =
    are_fields (trees_of (drop l.item-index l.items)) ≡ are_fields (trees_of l.items)

abbrev pub invariant-are_radios-loop-item : goal.invariant-are_radios-loop-item
invariant-are_radios-loop-item l =
    are_radios (trees_of (drop l.item-index l.items)) ≡ are_radios (trees_of l.items)

abbrev pub invariant-has_subs-loop-member : goal.invariant-has_subs-loop-member
invariant-has_subs-loop-member l =
    has_subs (entries_of (drop l.member-index l.member-items))
    ≡ has_subs (entries_of l.fn.members.pairs)

abbrev pub invariant-has_radios-loop-member : goal.invariant-has_radios-loop-member
invariant-has_radios-loop-member l =
    has_radios (entries_of (drop l.member-index l.member-items))
    ≡ has_radios (entries_of l.fn.members.pairs)
