-- The tokens that complete a stack, and what may stand behind what in one that they complete.
use Rattle.std.proofs.Common.{◌≡◌, [], ◌∷◌, true, false}
use Rattle.sjs_syntax.specs.declared.signs.AssignSign.TheVariants as assign
use Rattle.sjs_grammar.specs.Kinds as k
use Rattle.sjs_grammar.specs.Kinds.{Kind, Lit, word_of, key_of, level, needs_value}
use Rattle.sjs_grammar.specs.Tokens.{Tok, tok, Toks}
use Rattle.sjs_table.specs.Runs.{Stack, Done, ◌▹◌}
use Rattle.sjs_table.specs.Symbols as s
use Rattle.sjs_table.specs.Symbols.{Sym, Mode, Mark}
use Rattle.sjs_sound.proofs.Meanings.{mark_kind}
use Rattle.std.proofs.Common.{codes}

-- a token that completes, with no line break before it
abbrev pub plain : Kind → Tok
plain t = tok 0 false t

abbrev pub a_name : Tok
a_name = plain (k.Name (codes "a"))

abbrev pub a_number : Tok
a_number = plain (k.Number 0)

-- a function behind its name
abbrev pub a_code : Toks → Toks
a_code ts =
    plain k.OpenRound ∷ plain k.CloseRound ∷ plain k.OpenBrace ∷ plain k.CloseBrace ∷ ts

-- the tokens that complete what is expected first
abbrev pub word_for : Sym → Toks → Toks
word_for (s.Put n) ts = ts
word_for (s.Want m) ts = plain (mark_kind m) ∷ ts
word_for s.Name ts = a_name ∷ ts
word_for (s.Stmts l) ts = ts
word_for (s.Stmt l) ts = plain k.Semi ∷ ts
word_for (s.Else l a) ts = ts
word_for s.End ts = plain k.Semi ∷ ts
word_for (s.Return a) ts = plain k.Semi ∷ ts
word_for (s.Decl d) ts = a_name ∷ plain (k.Assign assign.Set) ∷ a_number ∷ ts
word_for (s.Given d) ts = plain (k.Assign assign.Set) ∷ a_number ∷ ts
word_for (s.Decls d) ts = ts
word_for (s.Init a) ts = plain k.Semi ∷ plain k.Semi ∷ plain k.CloseRound ∷ plain k.Semi ∷ ts
word_for (s.ForName a d) ts = a_name ∷ plain k.In ∷ a_number ∷ plain k.CloseRound
    ∷ plain k.Semi ∷ ts
word_for (s.ForNext a d b n) ts = plain k.In ∷ a_number ∷ plain k.CloseRound ∷ plain k.Semi ∷ ts
word_for s.Test ts = plain k.Semi ∷ ts
word_for s.Last ts = plain k.CloseRound ∷ ts
word_for s.Expr ts = a_number ∷ ts
word_for s.Operand ts = a_number ∷ ts
word_for (s.Level n) ts = a_number ∷ ts
word_for (s.Prim m) ts = a_name ∷ ts
word_for (s.After s.First p a) ts = ts
word_for (s.After s.Then p a) ts = ts
word_for (s.After s.Before true a) ts = ts
word_for (s.After s.Before false a) ts = plain k.Dot ∷ a_name ∷ ts
word_for (s.Tail n j a) ts = ts
word_for (s.Choose a) ts = ts
word_for (s.AfterName a n) ts = ts
word_for (s.Open a) ts = a_number ∷ plain k.CloseRound ∷ ts
word_for (s.OpenName a b n) ts = plain k.CloseRound ∷ ts
word_for (s.Closed a b n) ts = ts
word_for (s.Body a) ts = a_number ∷ ts
word_for (s.Function a) ts = a_code ts
word_for (s.Code n) ts = a_code ts
word_for s.Names ts = a_name ∷ ts
word_for s.MoreNames ts = ts
word_for s.Params ts = plain k.CloseRound ∷ ts
word_for s.Args ts = plain k.CloseRound ∷ ts
word_for s.MoreArgs ts = plain k.CloseRound ∷ ts
word_for s.Items ts = plain k.CloseSquare ∷ ts
word_for s.MoreItems ts = plain k.CloseSquare ∷ ts
word_for s.Members ts = plain k.CloseBrace ∷ ts
word_for s.MoreMembers ts = plain k.CloseBrace ∷ ts
word_for (s.Word a) ts = a_name ∷ ts

-- the tokens that complete a stack
abbrev pub finish : Stack → Toks
finish (Done test) = []
finish (y ▹ st) = word_for y (finish st)

-- what may stand behind an expression, a statement, statements, and names, in a stack

abbrev pub BehindExpr : Toks → Type 0
BehindExpr (tok a x k.Semi ∷ ts) = Unit {0}
BehindExpr (tok a x k.CloseRound ∷ ts) = Unit {0}
BehindExpr (tok a x k.CloseSquare ∷ ts) = Unit {0}
BehindExpr (tok a x k.CloseBrace ∷ ts) = Unit {0}
BehindExpr (tok a x k.Colon ∷ ts) = Unit {0}
BehindExpr ts = ⊥

abbrev pub BehindStmt : Toks → Type 0
BehindStmt (tok a x k.CloseBrace ∷ ts) = Unit {0}
BehindStmt (tok a x k.End ∷ ts) = Unit {0}
BehindStmt (tok a x k.While ∷ ts) = Unit {0}
BehindStmt ts = ⊥

abbrev pub BehindStmts : Toks → Type 0
BehindStmts (tok a x k.CloseBrace ∷ ts) = Unit {0}
BehindStmts (tok a x k.End ∷ ts) = Unit {0}
BehindStmts ts = ⊥

abbrev pub BehindNames : Toks → Type 0
BehindNames (tok a x k.CloseRound ∷ ts) = Unit {0}
BehindNames ts = ⊥

-- only at the end of the text nothing is left
abbrev pub BehindMark : Mark → Toks → Type 0
BehindMark s.End ts = ts ≡ []
BehindMark m ts = Unit {0}

-- what may stand behind a symbol
abbrev pub Behind : Sym → Toks → Type 0
Behind (s.Put n) ts = Unit {0}
Behind (s.Want m) ts = BehindMark m ts
Behind s.Name ts = Unit {0}
Behind (s.Stmts l) ts = BehindStmts ts
Behind (s.Stmt l) ts = BehindStmt ts
Behind (s.Else l a) ts = BehindStmt ts
Behind s.End ts = Unit {0}
Behind (s.Return a) ts = Unit {0}
Behind (s.Decl d) ts = BehindExpr ts
Behind (s.Given d) ts = BehindExpr ts
Behind (s.Decls d) ts = BehindExpr ts
Behind (s.Init a) ts = BehindStmt ts
Behind (s.ForName a d) ts = BehindStmt ts
Behind (s.ForNext a d b n) ts = BehindStmt ts
Behind s.Test ts = Unit {0}
Behind s.Last ts = Unit {0}
Behind s.Expr ts = BehindExpr ts
Behind s.Operand ts = BehindExpr ts
Behind (s.Level n) ts = BehindExpr ts
Behind (s.Prim m) ts = BehindExpr ts
Behind (s.After m p a) ts = BehindExpr ts
Behind (s.Tail n j a) ts = BehindExpr ts
Behind (s.Choose a) ts = BehindExpr ts
Behind (s.AfterName a n) ts = BehindExpr ts
Behind (s.Open a) ts = BehindExpr ts
Behind (s.OpenName a b n) ts = BehindExpr ts
Behind (s.Closed a b n) ts = BehindExpr ts
Behind (s.Body a) ts = BehindExpr ts
Behind (s.Function a) ts = Unit {0}
Behind (s.Code n) ts = Unit {0}
Behind s.Names ts = BehindNames ts
Behind s.MoreNames ts = BehindNames ts
Behind s.Params ts = Unit {0}
Behind s.Args ts = Unit {0}
Behind s.MoreArgs ts = Unit {0}
Behind s.Items ts = Unit {0}
Behind s.MoreItems ts = Unit {0}
Behind s.Members ts = Unit {0}
Behind s.MoreMembers ts = Unit {0}
Behind (s.Word a) ts = Unit {0}

-- a stack that tokens complete
abbrev pub Good : Stack → Type 0
Good (Done test) = (test [] ≡ true) × ((t : Tok) (ts : Toks) → test (t ∷ ts) ≡ false)
Good (y ▹ st) = Behind y (finish st) × Good st
