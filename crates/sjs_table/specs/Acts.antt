-- What the machine can do at a token.
use Rattle.std.specs.Prelude.{ℕ, zero, suc, List, [], ◌∷◌, ◌++◌, Bool, true, false}
use Rattle.sjs_grammar.specs.Kinds as k
use Rattle.sjs_grammar.specs.Kinds.{Kind, Lit}
use Rattle.sjs_table.specs.Notes as note
use Rattle.sjs_table.specs.Notes.{Note}
use Rattle.sjs_table.specs.Symbols as s
use Rattle.sjs_table.specs.Symbols.{Sym, Mark}

-- what is done at a token: it is taken, and these symbols are expected then; or these notes are put
-- out, the newest first, and the token is left to the next symbol; or no script goes on so
pub data Act : Type 0 where
  Take : List Sym → Act
  Pass : List Note → Act
  Stop : Act

-- a token that begins something, with symbols expected behind it
abbrev pub then : Act → List Sym → Act
then (Take xs) ys = Take (xs ++ ys)
then (Pass o) ys = Stop
then Stop ys = Stop

-- a note is put out first
abbrev pub first : Note → Act → Act
first n (Take ys) = Take (s.Put n ∷ ys)
first n (Pass o) = Pass (o ++ n ∷ [])
first n Stop = Stop

-- the token is left to the next symbol where this holds
abbrev pub pass_if : Bool → Act
pass_if true = Pass []
pass_if false = Stop

abbrev pub stop_if : Bool → Act → Act
stop_if true act = Stop
stop_if false act = act

-- one token that must stand there
abbrev pub want : Mark → Kind → Act
want s.OpenRound k.OpenRound = Take []
want s.CloseRound k.CloseRound = Take []
want s.OpenBrace k.OpenBrace = Take []
want s.CloseBrace k.CloseBrace = Take []
want s.CloseSquare k.CloseSquare = Take []
want s.Semi k.Semi = Take []
want s.Colon k.Colon = Take []
want s.Arrow k.Arrow = Take []
want s.While k.While = Take []
want s.End k.End = Take []
want m t = Stop

-- the note of a word that stands for a value
abbrev pub value_note : ℕ → Lit → Note
value_note a k.True = note.Truth a true
value_note a k.False = note.Truth a false
value_note a k.Null = note.Null a
value_note a k.Undefined = note.Undefined a

-- the first number is at most the second
abbrev pub at_most : ℕ → ℕ → Bool
at_most zero n = true
at_most (suc m) zero = false
at_most (suc m) (suc n) = at_most m n
