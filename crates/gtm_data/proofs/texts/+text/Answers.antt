use Rattle.std.proofs.Common.{ap, ◌∙◌, ◌++◌, map}
use Rattle.std.specs.List.{join_with_byte}
use Rattle.gtm_data.proofs.Joined.{one_more, word_of_item, texts_of-map}
use Rattle.gtm_data.proofs.Lists.{take_all}
use Rattle.gtm_data.proofs.texts.+text.Goals as goal

pub write_texts-loop-at-preserved : goal.write_texts-loop-at-preserved
write_texts-loop-at-preserved t c =
    one_more word_of_item _ _ _ _ _ _ _ c.loop-at-test.true c.item-item.is c.loop-at.invariant
    c.in_ok-write_comma.ensures c.in_ok-write_text.ensures

pub write_texts-returns : goal.write_texts-returns
write_texts-returns t c =
    let all = c.as_slice-item-items in
    c.loop-at.invariant
    ∙ ap (λ pieces. c.args.out.now ++ join_with_byte 44 pieces)
    (ap (map word_of_item)
    (take_all c.loop-at.at all.result.now c.loop-at-test.false ∙ all.ensures)
    ∙ texts_of-map c.args.items.now)
