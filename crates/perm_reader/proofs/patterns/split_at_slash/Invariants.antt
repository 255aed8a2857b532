use Rattle.std.proofs.Common.{◌≡◌, ◌++◌, length}
use denote.Shadow.{shadow}
use denote.Text.{Utf8}
use Rattle.std.specs.Str.{chars}
use Rattle.perm_reader.specs.Patterns.{before_slash, from_slash}
use Rattle.perm_reader.proofs.patterns.split_at_slash.Given as goal

abbrev pub invariant-loop-c : goal.invariant-loop-c
invariant-loop-c l = record {
  front : l.front ++ before_slash (chars l.left) ≡ before_slash (chars l.text);
  rest : from_slash (chars l.left) ≡ from_slash (chars l.text);
  utf8 : shadow (Utf8 l.left);
}

abbrev pub decreases-loop-c : goal.decreases-loop-c
decreases-loop-c l = length (chars l.left)
