use Rattle.std.proofs.Common.{◌≡◌, length, false}
use denote.Shadow.{shadow}
use denote.Text.{Utf8}
use Rattle.std.specs.Str.{chars}
use Rattle.sjs_lexer.specs.Reading.{past_block}
use Rattle.sjs_lexer.proofs.gaps.past_block.Given as goal

abbrev pub invariant-loop-c : goal.invariant-loop-c
invariant-loop-c l = record {
  same : past_block l.broken (chars l.left) ≡ past_block false (chars l.text);
  utf8 : shadow (Utf8 l.left);
}

abbrev pub decreases-loop-c : goal.decreases-loop-c
decreases-loop-c l = length (chars l.left)
