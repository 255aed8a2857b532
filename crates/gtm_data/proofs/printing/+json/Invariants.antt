use Rattle.std.proofs.Common.{◌≡◌, ◌++◌, take, map}
use Rattle.std.specs.List.{join_with_byte}
use Rattle.gtm_data.proofs.Joined.{text_of_item, text_of_member}
use Rattle.gtm_data.proofs.printing.+json.Given as goal

abbrev pub invariant-write_items-loop-at : goal.invariant-write_items-loop-at
invariant-write_items-loop-at l =
    l.out ≡ l.fn.out ++ join_with_byte 44 (map text_of_item (take l.at l.item-items))

abbrev pub invariant-write_members-loop-at : goal.invariant-write_members-loop-at
invariant-write_members-loop-at l =
    l.out ≡ l.fn.out ++ join_with_byte 44 (map text_of_member (take l.at l.member-items))
