use Rattle.std.proofs.Common.{◌≡◌, map}
use Rattle.std.specs.Char.{to_ascii_uppercase}
use Rattle.variable_kinds.proofs.formats.upper.Given as goal

abbrev pub invariant-loop-character : goal.invariant-loop-character
invariant-loop-character l = l.made ≡ map to_ascii_uppercase l.yielded
