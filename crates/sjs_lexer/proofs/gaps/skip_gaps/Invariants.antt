use Rattle.std.proofs.Common.{length}
use denote.Shadow.{shadow}
use denote.Text.{Utf8}
use Rattle.std.specs.Str.{chars}
use Rattle.sjs_lexer.specs.Tokens.{Skips}
use Rattle.sjs_lexer.proofs.gaps.skip_gaps.Given as goal

abbrev pub invariant-loop-breaks : goal.invariant-loop-breaks
invariant-loop-breaks l = record {
  skips : Skips (chars l.text) l.broken (chars l.left);
  utf8 : shadow (Utf8 l.left);
}

abbrev pub decreases-loop-breaks : goal.decreases-loop-breaks
decreases-loop-breaks l = length (chars l.left)
