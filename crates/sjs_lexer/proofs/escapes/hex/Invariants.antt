use Rattle.std.proofs.Common.{◌≡◌, ◌≤◌}
use denote.Shadow.{shadow}
use denote.Text.{Utf8}
use Rattle.std.specs.Str.{chars}
use Rattle.sjs_lexer.specs.Reading.{hex_from}
use Rattle.sjs_lexer.proofs.escapes.hex.Given as goal

abbrev pub invariant-loop-count : goal.invariant-loop-count
invariant-loop-count l = record {
  same : hex_from l.count l.number (chars l.left) ≡ hex_from l.digits 0 (chars l.text);
  within : l.number ≤ 1114111;
  utf8 : shadow (Utf8 l.left);
}

abbrev pub decreases-loop-count : goal.decreases-loop-count
decreases-loop-count l = l.count
