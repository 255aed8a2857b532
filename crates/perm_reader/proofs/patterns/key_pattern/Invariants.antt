use Rattle.std.proofs.Common.{◌≡◌, ◌++◌, length}
use Rattle.std.specs.Prelude.{option_map}
use denote.Shadow.{shadow}
use denote.Text.{Utf8}
use Rattle.std.specs.Str.{chars}
use Rattle.perm_reader.specs.Patterns.{before_last_star}
use Rattle.perm_reader.proofs.patterns.key_pattern.Given as goal

abbrev pub invariant-loop-c : goal.invariant-loop-c
invariant-loop-c l = record {
  split : l.front ++ chars l.left ≡ l.text;
  star :
      option_map (λ more. l.front ++ more) (before_last_star (chars l.left))
      ≡ before_last_star l.text;
  utf8 : shadow (Utf8 l.left);
}

abbrev pub decreases-loop-c : goal.decreases-loop-c
decreases-loop-c l = length (chars l.left)
