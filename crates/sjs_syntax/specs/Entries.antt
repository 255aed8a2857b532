-- The entries of a table that is lent: each text, with its standing.
use Rattle.std.specs.Prelude.{ℕ, List, map}
use denote.Ref.{Bor}
use Rattle.sjs_syntax.specs.declared.words.Standing.{Standing}
use Rattle.sjs_syntax.specs.Words.{Entry}

abbrev pub entries : List (Bor (List ℕ) × Standing) → List Entry
entries table = map (λ e. (e.0.now, e.1)) table
