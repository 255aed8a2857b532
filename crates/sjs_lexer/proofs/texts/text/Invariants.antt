use Rattle.std.proofs.Common.{length}
use denote.Shadow.{shadow}
use denote.Text.{Utf8}
use Rattle.std.specs.Str.{chars}
use Rattle.sjs_lexer.specs.Reading.{Pieces}
use Rattle.sjs_lexer.proofs.texts.text.Given as goal

abbrev pub invariant-loop-c : goal.invariant-loop-c
invariant-loop-c l = record {
  pieces : Pieces l.quote (chars l.start) l.value (chars l.left);
  utf8 : shadow (Utf8 l.left);
}

abbrev pub decreases-loop-c : goal.decreases-loop-c
decreases-loop-c l = length (chars l.left)
