-- Worked scripts, token by token: at which token they are refused.
use Rattle.std.specs.Prelude.{ℕ, List, [], ◌∷◌, Bool, true, false}
use Rattle.std.specs.Prelude.{codes}
use Rattle.sjs_syntax.specs.declared.signs.AssignSign.TheVariants as assign
use Rattle.sjs_syntax.specs.declared.statements.Binding.TheVariants as binding
use Rattle.sjs_grammar.specs.Kinds as k
use Rattle.sjs_grammar.specs.Tokens.{tok, Toks}
use Rattle.sjs_refusal.specs.Refusal.{IsRefused}

-- switch (1) {}
abbrev pub switch : Toks × ℕ × Bool
switch = (
  tok 0 false (k.OutWord (codes "switch")) ∷ tok 7 false k.OpenRound
      ∷ tok 8 false (k.Number 1) ∷ tok 9 false k.CloseRound ∷ tok 11 false k.OpenBrace
      ∷ tok 12 false k.CloseBrace ∷ tok 13 false k.End ∷ [],
  0,
  true,
)

-- a b
abbrev pub one_line : Toks × ℕ × Bool
one_line = (
  tok 0 false (k.Name (codes "a")) ∷ tok 2 false (k.Name (codes "b")) ∷ tok 3 false k.End ∷ [],
  2,
  false,
)

-- if (a) b else c
abbrev pub no_end : Toks × ℕ × Bool
no_end = (
  tok 0 false k.If ∷ tok 3 false k.OpenRound ∷ tok 4 false (k.Name (codes "a"))
      ∷ tok 5 false k.CloseRound ∷ tok 7 false (k.Name (codes "b")) ∷ tok 9 false k.Else
      ∷ tok 14 false (k.Name (codes "c")) ∷ tok 15 false k.End ∷ [],
  9,
  false,
)

-- const a;
abbrev pub no_value : Toks × ℕ × Bool
no_value = (
  tok 0 false (k.Bind binding.Const) ∷ tok 6 false (k.Name (codes "a")) ∷ tok 7 false k.Semi
      ∷ tok 8 false k.End ∷ [],
  7,
  false,
)

-- break;
abbrev pub no_loop : Toks × ℕ × Bool
no_loop = (
  tok 0 false k.Break ∷ tok 5 false k.Semi ∷ tok 6 false k.End ∷ [],
  0,
  false,
)

-- while (a) f(function () { break; })
abbrev pub other_loop : Toks × ℕ × Bool
other_loop = (
  tok 0 false k.While ∷ tok 6 false k.OpenRound ∷ tok 7 false (k.Name (codes "a"))
      ∷ tok 8 false k.CloseRound ∷ tok 10 false (k.Name (codes "f")) ∷ tok 11 false k.OpenRound
      ∷ tok 12 false k.Function ∷ tok 21 false k.OpenRound ∷ tok 22 false k.CloseRound
      ∷ tok 24 false k.OpenBrace ∷ tok 26 false k.Break ∷ tok 31 false k.Semi
      ∷ tok 33 false k.CloseBrace ∷ tok 34 false k.CloseRound ∷ tok 35 false k.End ∷ [],
  26,
  false,
)

-- f() = 1
abbrev pub no_place : Toks × ℕ × Bool
no_place = (
  tok 0 false (k.Name (codes "f")) ∷ tok 1 false k.OpenRound ∷ tok 2 false k.CloseRound
      ∷ tok 4 false (k.Assign assign.Set) ∷ tok 6 false (k.Number 1) ∷ tok 7 false k.End ∷ [],
  4,
  false,
)

-- a, b
abbrev pub comma : Toks × ℕ × Bool
comma = (
  tok 0 false (k.Name (codes "a")) ∷ tok 1 false k.Comma ∷ tok 3 false (k.Name (codes "b"))
      ∷ tok 4 false k.End ∷ [],
  1,
  true,
)

-- if (a)
abbrev pub at_the_end : Toks × ℕ × Bool
at_the_end = (
  tok 0 false k.If ∷ tok 3 false k.OpenRound ∷ tok 4 false (k.Name (codes "a"))
      ∷ tok 5 false k.CloseRound ∷ tok 6 false k.End ∷ [],
  6,
  false,
)

-- a | [b, c]
abbrev pub next_line : Toks × ℕ × Bool
next_line = (
  tok 0 false (k.Name (codes "a")) ∷ tok 2 true k.OpenSquare
      ∷ tok 3 false (k.Name (codes "b")) ∷ tok 4 false k.Comma ∷ tok 6 false (k.Name (codes "c"))
      ∷ tok 7 false k.CloseSquare ∷ tok 8 false k.End ∷ [],
  4,
  true,
)

-- (a, b)
abbrev pub no_arrow : Toks × ℕ × Bool
no_arrow = (
  tok 0 false k.OpenRound ∷ tok 1 false (k.Name (codes "a")) ∷ tok 2 false k.Comma
      ∷ tok 4 false (k.Name (codes "b")) ∷ tok 5 false k.CloseRound ∷ tok 6 false k.End ∷ [],
  6,
  false,
)

-- ++a | (b)
abbrev pub broken_place : Toks × ℕ × Bool
broken_place = (
  tok 0 false (k.Step true) ∷ tok 2 false (k.Name (codes "a")) ∷ tok 4 true k.OpenRound
      ∷ tok 5 false (k.Name (codes "b")) ∷ tok 6 false k.CloseRound ∷ tok 7 false k.End ∷ [],
  7,
  false,
)

-- for (a in b) c
abbrev pub in_ : Toks × ℕ × Bool
in_ = (
  tok 0 false k.For ∷ tok 4 false k.OpenRound ∷ tok 5 false (k.Name (codes "a"))
      ∷ tok 7 false k.In ∷ tok 10 false (k.Name (codes "b")) ∷ tok 11 false k.CloseRound
      ∷ tok 13 false (k.Name (codes "c")) ∷ tok 14 false k.End ∷ [],
  7,
  true,
)

infixr 20 ◌&◌
-- each of these tokens is refused at its place
pub data AreRefused : List (Toks × ℕ × Bool) → Type 0 where
  none_refused : AreRefused []
  ◌&◌ : {w : Toks × ℕ × Bool} {ws : List (Toks × ℕ × Bool)} →
      IsRefused w.0 w.1 w.2 → AreRefused ws → AreRefused (w ∷ ws)

-- all of them
abbrev pub refused : List (Toks × ℕ × Bool)
refused =
    switch ∷ one_line ∷ no_end ∷ no_value ∷ no_loop ∷ other_loop ∷ no_place ∷ comma
    ∷ at_the_end ∷ next_line ∷ no_arrow ∷ broken_place ∷ in_ ∷ []
