-- Tokens in order, and what the grammar asks of the next one.
use Rattle.std.specs.Prelude.{ℕ, List, [], ◌∷◌, Bool, true, false}
use Rattle.sjs_syntax.specs.declared.signs.AssignSign.TheVariants as assign
use Rattle.sjs_grammar.specs.Kinds as k
use Rattle.sjs_grammar.specs.Kinds.{Kind}

-- a token: the byte at which it begins, whether a line break stands before it, and what it is
pub data Tok : Type 0 where
  tok : ℕ → Bool → Kind → Tok

abbrev pub Toks : Type 0
Toks = List Tok

-- the byte at which the next token begins
abbrev pub begins : Toks → ℕ
begins [] = 0
begins (tok a b k ∷ ts) = a

-- a line break stands before the next token
abbrev pub broken : Toks → Bool
broken [] = false
broken (tok a b k ∷ ts) = b

-- the next token goes on with a call, a member or an index, or is a step behind its place
abbrev pub carries : Toks → Bool
carries [] = true
carries (tok a b k.Dot ∷ ts) = true
carries (tok a b k.OpenRound ∷ ts) = true
carries (tok a b k.OpenSquare ∷ ts) = true
carries (tok a false (k.Step up) ∷ ts) = true
carries (t ∷ ts) = false

-- the next token goes on with an expression: a sign between operands, `?`, an assignment or `=>`
abbrev pub goes_on : Toks → Bool
goes_on [] = true
goes_on (tok a b (k.Infix s) ∷ ts) = true
goes_on (tok a b k.Quest ∷ ts) = true
goes_on (tok a b (k.Assign s) ∷ ts) = true
goes_on (tok a b k.Arrow ∷ ts) = true
goes_on (t ∷ ts) = false

abbrev pub semi_next : Toks → Bool
semi_next [] = false
semi_next (tok a b k.Semi ∷ ts) = true
semi_next (t ∷ ts) = false

abbrev pub comma_next : Toks → Bool
comma_next [] = true
comma_next (tok a b k.Comma ∷ ts) = true
comma_next (t ∷ ts) = false

-- `=` is the next token
abbrev pub set_next : Toks → Bool
set_next [] = true
set_next (tok a b (k.Assign assign.Set) ∷ ts) = true
set_next (t ∷ ts) = false

abbrev pub else_next : Toks → Bool
else_next [] = true
else_next (tok a b k.Else ∷ ts) = true
else_next (t ∷ ts) = false

abbrev pub brace_next : Toks → Bool
brace_next [] = true
brace_next (tok a b k.OpenBrace ∷ ts) = true
brace_next (t ∷ ts) = false

-- an expression that begins so is no statement
abbrev pub brace_or_function_next : Toks → Bool
brace_or_function_next [] = true
brace_or_function_next (tok a b k.OpenBrace ∷ ts) = true
brace_or_function_next (tok a b k.Function ∷ ts) = true
brace_or_function_next (t ∷ ts) = false
