use Rattle.std.proofs.Common.{◌≡◌}
use denote.Shadow.{shadow}
use denote.Text.{Utf8}
use Rattle.std.specs.Str.{chars}
use Rattle.sjs_lexer.specs.Reading.{behind}
use Rattle.sjs_lexer.proofs.names.skip.Given as goal

abbrev pub invariant-loop-more : goal.invariant-loop-more
invariant-loop-more l = record {
  same : behind l.more (chars l.left) ≡ behind l.count (chars l.text);
  utf8 : shadow (Utf8 l.left);
}

abbrev pub decreases-loop-more : goal.decreases-loop-more
decreases-loop-more l = l.more
