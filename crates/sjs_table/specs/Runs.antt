-- The run of the machine: one token after another, with a stack of what is expected.
use Rattle.std.specs.Prelude.{ℕ, List, [], ◌∷◌, ◌++◌, Bool, true, false, Option, Some, None}
use Rattle.sjs_grammar.specs.Kinds.{Kind}
use Rattle.sjs_grammar.specs.Tokens.{tok, Toks}
use Rattle.sjs_table.specs.Notes as note
use Rattle.sjs_table.specs.Notes.{Out}
use Rattle.sjs_table.specs.Symbols as s
use Rattle.sjs_table.specs.Symbols.{Sym}
use Rattle.sjs_table.specs.Table.{Act, Take, Pass, Stop, act}

infixr 20 ◌▹◌
-- what is expected, the next first, down to a test of the tokens that are left
pub data Stack : Type 0 where
  Done : (Toks → Bool) → Stack
  ◌▹◌ : Sym → Stack → Stack

-- symbols on a stack
abbrev pub onto : List Sym → Stack → Stack
onto [] st = st
onto (y ∷ ys) st = y ▹ onto ys st

abbrev pub tested : Bool → Out → Option Out
tested true o = Some o
tested false o = None

-- an act over the rest of a stack: `go` reads on, and `below` leaves the token to the next symbol
abbrev pub go_on :
    (Stack → Out → Option Out) → Stack → (Out → Option Out) → Out → Act → Option Out
go_on go st below o (Take ys) = go (onto ys st) o
go_on go st below o (Pass n) = below (n ++ o)
go_on go st below o Stop = None

-- one token down a stack
abbrev pub steps :
    (Stack → Out → Option Out) → Toks → ℕ → Bool → Kind → Stack → Out → Option Out
steps go ts b x t (Done test) o = tested (test ts) o
steps go ts b x t (y ▹ st) o = go_on go st (steps go ts b x t st) o (act y b x t)

-- behind the last token only notes are left
abbrev pub at_end : Stack → Out → Option Out
at_end (Done test) o = tested (test []) o
at_end (s.Put n ▹ st) o = at_end st (n ∷ o)
at_end (y ▹ st) o = None

-- tokens that a stack expects, behind what was put out: all that is put out then
abbrev pub run : Toks → Stack → Out → Option Out
run [] st o = at_end st o
run (tok b x t ∷ ts) st o = steps (run ts) (tok b x t ∷ ts) b x t st o

abbrev pub is_nil : Toks → Bool
is_nil [] = true
is_nil (t ∷ ts) = false

-- a whole script
abbrev pub start : Stack
start = s.Stmts false ▹ s.Want s.End ▹ Done is_nil

-- statements begin
abbrev pub opened : Out
opened = note.Stmts ∷ []
