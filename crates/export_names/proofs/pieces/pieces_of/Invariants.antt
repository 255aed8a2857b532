use Rattle.std.proofs.Common.{◌≡◌, ◌++◌, length}
use denote.Text.{Utf8}
use denote.Shadow.{shadow}
use Rattle.std.specs.Str.{chars}
use Rattle.export_names.specs.Names.{pieces_of}
use Rattle.export_names.proofs.pieces.pieces_of.Given as goal

abbrev pub invariant-loop-before : goal.invariant-loop-before
invariant-loop-before l = record {
  text : shadow (Utf8 l.left);
  whole : l.made ++ pieces_of l.names (chars l.left) ≡ pieces_of l.names (chars l.text);
}

abbrev pub decreases-loop-before : goal.decreases-loop-before
decreases-loop-before l = length (chars l.left)
