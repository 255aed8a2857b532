use Rattle.std.proofs.Common.{◌≡◌, length}
use denote.Shadow.{shadow}
use denote.Text.{Utf8}
use Rattle.std.specs.Str.{chars}
use Rattle.sjs_lexer.specs.Characters.{is_in_line}
use Rattle.sjs_lexer.specs.Reading.{skip_while}
use Rattle.sjs_lexer.proofs.gaps.skip_line.Given as goal

abbrev pub invariant-loop-c : goal.invariant-loop-c
invariant-loop-c l = record {
  same : skip_while is_in_line (chars l.left) ≡ skip_while is_in_line (chars l.text);
  utf8 : shadow (Utf8 l.left);
}

abbrev pub decreases-loop-c : goal.decreases-loop-c
decreases-loop-c l = length (chars l.left)
