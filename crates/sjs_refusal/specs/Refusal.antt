-- Which tokens begin a script, and at which token the others are refused.
use Rattle.std.specs.Prelude.{◌≡◌, ℕ, [], ◌∷◌, ◌++◌, Bool}
use Rattle.sjs_syntax.specs.Tree.{StmtTrees}
use Rattle.sjs_grammar.specs.Grammar.{Reads}
use Rattle.sjs_grammar.specs.Kinds.{Kind, is_left_out}
use Rattle.sjs_grammar.specs.Tokens.{tok, Toks}
use Rattle.sjs_table.specs.Notes.{Out}
use Rattle.sjs_table.specs.Runs.{Stack, Done, ◌▹◌, onto, start, opened}
use Rattle.sjs_table.specs.Table.{Act, Take, Pass, Stop, act}

-- some script begins with these tokens
abbrev pub Begins : Toks → Type 0
Begins ts = (rest : Toks) × (p : StmtTrees) × Reads (ts ++ rest) p

-- tokens are refused at the first one that no script has there after the tokens before it: where it
-- begins, and whether it is of a form that is left out
pub record IsRefused (ts : Toks) (place : ℕ) (left_out : Bool) : Type 0 where
  pub before : Toks
  pub rest : Toks
  pub broken : Bool
  pub what : Kind
  pub split : ts ≡ before ++ tok place broken what ∷ rest
  pub begins : Begins before
  pub refused : Begins (before ++ tok place broken what ∷ []) → ⊥
  pub is : left_out ≡ is_left_out what

-- where the machine stands behind a token: nowhere, or with a stack and what was put out
pub data Next : Type 0 where
  Dead : Next
  Live : Stack → Out → Next

abbrev pub pick : Stack → (Out → Next) → Out → Act → Next
pick st below o (Take ys) = Live (onto ys st) o
pick st below o (Pass n) = below (n ++ o)
pick st below o Stop = Dead

-- behind one token
abbrev pub next : ℕ → Bool → Kind → Stack → Out → Next
next b x t (Done test) o = Dead
next b x t (y ▹ st) o = pick st (next b x t st) o (act y b x t)

abbrev pub bind : Next → (Stack → Out → Next) → Next
bind Dead f = Dead
bind (Live st o) f = f st o

-- behind tokens
abbrev pub behind : Toks → Stack → Out → Next
behind [] st o = Live st o
behind (tok b x t ∷ ts) st o = bind (next b x t st o) (behind ts)

-- behind the tokens that a script begins with
abbrev pub after : Toks → Next
after ts = behind ts start opened
