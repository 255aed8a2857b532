use Rattle.std.proofs.Common.{ap, ◌∙◌, ◌++◌, map}
use Rattle.std.specs.List.{join_with_byte}
use Rattle.gtm_data.specs.JsonText.{quoted}
use Rattle.gtm_data.proofs.Joined.{key_value, one_more, text_of_item, text_of_member, item_texts-of}
use Rattle.gtm_data.proofs.Joined.{member_texts-of}
use Rattle.gtm_data.proofs.Lists.{take_all}
use Rattle.gtm_data.proofs.printing.+json.Goals as goal

pub write_items-loop-at-preserved : goal.write_items-loop-at-preserved
write_items-loop-at-preserved t c =
    one_more text_of_item _ _ _ _ _ _ _ c.loop-at-test.true c.item-item.is c.loop-at.invariant
    c.in_ok-write_comma.ensures c.in_ok-write_json.ensures

pub write_items-returns : goal.write_items-returns
write_items-returns t c =
    let all = c.as_slice-item-items in
    c.loop-at.invariant
    ∙ ap (λ pieces. c.args.out.now ++ join_with_byte 44 pieces)
    (ap (map text_of_item)
    (take_all c.loop-at.at all.result.now c.loop-at-test.false ∙ all.ensures)
    ∙ item_texts-of c.args.items.now)

pub write_members-loop-at-preserved : goal.write_members-loop-at-preserved
write_members-loop-at-preserved t c =
    one_more text_of_member _ _ _ _ _ _ _ c.loop-at-test.true c.member-item.is c.loop-at.invariant
    c.in_ok-write_comma.ensures
    (key_value (quoted c.member-item.result.0) _ _ _ _ c.in_ok-write_key.ensures
    c.in_ok-write_json.ensures)

pub write_members-returns : goal.write_members-returns
write_members-returns t c =
    let all = c.as_slice-member-items in
    c.loop-at.invariant
    ∙ ap (λ pieces. c.args.out.now ++ join_with_byte 44 pieces)
    (ap (map text_of_member)
    (take_all c.loop-at.at all.result.now c.loop-at-test.false ∙ all.ensures)
    ∙ member_texts-of c.args.members.now.pairs)
