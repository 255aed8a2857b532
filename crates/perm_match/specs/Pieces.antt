-- A text that lies in pieces.
use Rattle.std.specs.Prelude.{ℕ, List, ◌++◌}
use Rattle.std.specs.Str.{chars}
use Rattle.perm_match.specs.declared.pieces.Pieces.{Pieces}

abbrev pub joined : Pieces → List ℕ
joined text = chars text.first.now ++ (chars text.second.now ++ chars text.third.now)
