use Rattle.std.proofs.Common.{◌≡◌, ◌≤◌, length}
use denote.Shadow.{shadow}
use denote.Text.{Utf8}
use Rattle.std.specs.Str.{chars}
use Rattle.sjs_lexer.specs.Reading.{number_from}
use Rattle.sjs_lexer.proofs.numbers.number_from.Given as goal

abbrev pub invariant-loop-c : goal.invariant-loop-c
invariant-loop-c l = record {
  same : number_from l.base l.number (chars l.left) ≡ number_from l.base l.front (chars l.text);
  within : l.number ≤ 9007199254740991;
  utf8 : shadow (Utf8 l.left);
}

abbrev pub decreases-loop-c : goal.decreases-loop-c
decreases-loop-c l = length (chars l.left)
