use Rattle.std.proofs.Common.{◌≡◌, ◌++◌, take, map}
use Rattle.std.specs.List.{join_with_byte}
use Rattle.gtm_data.proofs.Joined.{word_of_item}
use Rattle.gtm_data.proofs.texts.+text.Given as goal

abbrev pub invariant-write_texts-loop-at : goal.invariant-write_texts-loop-at
invariant-write_texts-loop-at l =
    l.out ≡ l.fn.out ++ join_with_byte 44 (map word_of_item (take l.at l.item-items))
