use Rattle.std.proofs.Common.{◌≡◌, length}
use denote.Shadow.{shadow}
use denote.Text.{Utf8}
use Rattle.std.specs.Str.{chars}
use Rattle.perm_reader.specs.Patterns.{behind}
use Rattle.perm_reader.proofs.patterns.behind_chars.Given as goal

abbrev pub invariant-loop-c : goal.invariant-loop-c
invariant-loop-c l = record {
  same : behind (chars l.left) (chars l.here) ≡ behind (chars l.front) (chars l.text);
  left : shadow (Utf8 l.left);
  here : shadow (Utf8 l.here);
}

abbrev pub decreases-loop-c : goal.decreases-loop-c
decreases-loop-c l = length (chars l.left)
