-- Tokens whose numbers are in range, as those of a text are.
use Rattle.std.specs.Prelude.{◌≤◌, [], ◌∷◌}
use Rattle.sjs_grammar.specs.Kinds as k
use Rattle.sjs_grammar.specs.Kinds.{Kind}
use Rattle.sjs_grammar.specs.Tokens.{tok, Toks}

-- a number is at most 9007199254740991
abbrev pub IsInRange : Kind → Type 0
IsInRange (k.Number n) = n ≤ 9007199254740991
IsInRange t = Unit {0}

abbrev pub AreInRange : Toks → Type 0
AreInRange [] = Unit {0}
AreInRange (tok a x t ∷ ts) = IsInRange t × AreInRange ts
