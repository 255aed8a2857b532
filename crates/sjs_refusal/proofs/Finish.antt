-- A stack is completed by its tokens.
use Rattle.std.proofs.Common.{◌≡◌, ℕ, List, [], ◌∷◌, Bool, true, false, refl}
use Rattle.std.proofs.Common.{Option, Some, ◌∙◌, ap, pos}
use Rattle.sjs_syntax.specs.declared.signs.AssignSign.TheVariants as assign
use Rattle.sjs_syntax.specs.declared.statements.Binding.{Binding}
use Rattle.sjs_grammar.specs.Grammar.{named}
use Rattle.sjs_grammar.specs.Kinds as k
use Rattle.sjs_grammar.specs.Kinds.{Kind, Lit, word_of, key_of, level, needs_value}
use Rattle.sjs_grammar.specs.Tokens.{tok, Toks}
use Rattle.sjs_table.specs.Notes as note
use Rattle.sjs_table.specs.Notes.{Note, Out}
use Rattle.sjs_table.specs.Runs.{Stack, Done, ◌▹◌, run, tested}
use Rattle.sjs_table.specs.Symbols as s
use Rattle.sjs_table.specs.Symbols.{Sym, Mode, Mark}
use Rattle.sjs_sound.proofs.Meanings.{mark_kind}
use Rattle.std.proofs.Common.{codes}
use Rattle.sjs_refusal.proofs.Good.{plain, a_name, a_number, a_code, word_for, finish, BehindExpr}
use Rattle.sjs_refusal.proofs.Good.{BehindStmt, BehindStmts, BehindNames, Behind, Good}

-- the machine comes from some tokens and a stack to others
data Is (a : Option Out) (us : Toks) (w : Stack) : Type 0 where
  by : (p : Out) → a ≡ run us w p → Is a us w

abbrev To : Toks → Stack → Out → Toks → Stack → Type 0
To ts st o us w = Is (run ts st o) us w

put_to : (ts : Toks) (n : Note) (st : Stack) (o : Out) →
    run ts (s.Put n ▹ st) o ≡ run ts st (n ∷ o)
put_to [] n st o = refl
put_to (tok a x t ∷ ts) n st o = refl

stmts_end : (l : Bool) (ts : Toks) (st : Stack) (o : Out) → BehindStmts ts →
    To ts (s.Stmts l ▹ st) o ts st
stmts_end l (tok c x k.CloseBrace ∷ ts) st o h = by o refl
stmts_end l (tok c x k.End ∷ ts) st o h = by o refl
stmts_end l ts st o h = absurd h

else_end : (l : Bool) (a : ℕ) (ts : Toks) (st : Stack) (o : Out) → BehindStmt ts →
    To ts (s.Else l a ▹ st) o ts st
else_end l a (tok c x k.CloseBrace ∷ ts) st o h = by (note.If a ∷ o) refl
else_end l a (tok c x k.End ∷ ts) st o h = by (note.If a ∷ o) refl
else_end l a (tok c x k.While ∷ ts) st o h = by (note.If a ∷ o) refl
else_end l a ts st o h = absurd h

decls_end : (d : Binding) (ts : Toks) (st : Stack) (o : Out) → BehindExpr ts →
    To ts (s.Decls d ▹ st) o ts st
decls_end d (tok c x k.Semi ∷ ts) st o h = by o refl
decls_end d (tok c x k.CloseRound ∷ ts) st o h = by o refl
decls_end d (tok c x k.CloseSquare ∷ ts) st o h = by o refl
decls_end d (tok c x k.CloseBrace ∷ ts) st o h = by o refl
decls_end d (tok c x k.Colon ∷ ts) st o h = by o refl
decls_end d ts st o h = absurd h

first_end : (p : Bool) (a : ℕ) (ts : Toks) (st : Stack) (o : Out) → BehindExpr ts →
    To ts (s.After s.First p a ▹ st) o ts st
first_end p a (tok c x k.Semi ∷ ts) st o h = by o refl
first_end p a (tok c x k.CloseRound ∷ ts) st o h = by o refl
first_end p a (tok c x k.CloseSquare ∷ ts) st o h = by o refl
first_end p a (tok c x k.CloseBrace ∷ ts) st o h = by o refl
first_end p a (tok c x k.Colon ∷ ts) st o h = by o refl
first_end p a ts st o h = absurd h

then_end : (p : Bool) (a : ℕ) (ts : Toks) (st : Stack) (o : Out) → BehindExpr ts →
    To ts (s.After s.Then p a ▹ st) o ts st
then_end p a (tok c x k.Semi ∷ ts) st o h = by o refl
then_end p a (tok c x k.CloseRound ∷ ts) st o h = by o refl
then_end p a (tok c x k.CloseSquare ∷ ts) st o h = by o refl
then_end p a (tok c x k.CloseBrace ∷ ts) st o h = by o refl
then_end p a (tok c x k.Colon ∷ ts) st o h = by o refl
then_end p a ts st o h = absurd h

before_end : (a : ℕ) (ts : Toks) (st : Stack) (o : Out) → BehindExpr ts →
    To ts (s.After s.Before true a ▹ st) o ts st
before_end a (tok c x k.Semi ∷ ts) st o h = by o refl
before_end a (tok c x k.CloseRound ∷ ts) st o h = by o refl
before_end a (tok c x k.CloseSquare ∷ ts) st o h = by o refl
before_end a (tok c x k.CloseBrace ∷ ts) st o h = by o refl
before_end a (tok c x k.Colon ∷ ts) st o h = by o refl
before_end a ts st o h = absurd h

tail_end : (n j a : ℕ) (ts : Toks) (st : Stack) (o : Out) → BehindExpr ts →
    To ts (s.Tail n j a ▹ st) o ts st
tail_end n j a (tok c x k.Semi ∷ ts) st o h = by o refl
tail_end n j a (tok c x k.CloseRound ∷ ts) st o h = by o refl
tail_end n j a (tok c x k.CloseSquare ∷ ts) st o h = by o refl
tail_end n j a (tok c x k.CloseBrace ∷ ts) st o h = by o refl
tail_end n j a (tok c x k.Colon ∷ ts) st o h = by o refl
tail_end n j a ts st o h = absurd h

choose_end : (a : ℕ) (ts : Toks) (st : Stack) (o : Out) → BehindExpr ts →
    To ts (s.Choose a ▹ st) o ts st
choose_end a (tok c x k.Semi ∷ ts) st o h = by o refl
choose_end a (tok c x k.CloseRound ∷ ts) st o h = by o refl
choose_end a (tok c x k.CloseSquare ∷ ts) st o h = by o refl
choose_end a (tok c x k.CloseBrace ∷ ts) st o h = by o refl
choose_end a (tok c x k.Colon ∷ ts) st o h = by o refl
choose_end a ts st o h = absurd h

name_end : (a : ℕ) (n : List ℕ) (ts : Toks) (st : Stack) (o : Out) → BehindExpr ts →
    To ts (s.AfterName a n ▹ st) o ts st
name_end a n (tok c x k.Semi ∷ ts) st o h = by (note.Name a n ∷ o) refl
name_end a n (tok c x k.CloseRound ∷ ts) st o h = by (note.Name a n ∷ o) refl
name_end a n (tok c x k.CloseSquare ∷ ts) st o h = by (note.Name a n ∷ o) refl
name_end a n (tok c x k.CloseBrace ∷ ts) st o h = by (note.Name a n ∷ o) refl
name_end a n (tok c x k.Colon ∷ ts) st o h = by (note.Name a n ∷ o) refl
name_end a n ts st o h = absurd h

closed_end : (a b : ℕ) (n : List ℕ) (ts : Toks) (st : Stack) (o : Out) → BehindExpr ts →
    To ts (s.Closed a b n ▹ st) o ts st
closed_end a b n (tok c x k.Semi ∷ ts) st o h = by (note.Round a ∷ note.Name b n ∷ o) refl
closed_end a b n (tok c x k.CloseRound ∷ ts) st o h = by (note.Round a ∷ note.Name b n ∷ o) refl
closed_end a b n (tok c x k.CloseSquare ∷ ts) st o h = by (note.Round a ∷ note.Name b n ∷ o) refl
closed_end a b n (tok c x k.CloseBrace ∷ ts) st o h = by (note.Round a ∷ note.Name b n ∷ o) refl
closed_end a b n (tok c x k.Colon ∷ ts) st o h = by (note.Round a ∷ note.Name b n ∷ o) refl
closed_end a b n ts st o h = absurd h

names_end : (ts : Toks) (st : Stack) (o : Out) → BehindNames ts →
    To ts (s.MoreNames ▹ st) o ts st
names_end (tok c x k.CloseRound ∷ ts) st o h = by o refl
names_end ts st o h = absurd h

-- one step after another
and_then : {a b : Option Out} {vs : Toks} {v : Stack} → a ≡ b → Is b vs v → Is a vs v
and_then h (by q e) = by q (h ∙ e)

and_to : {a : Option Out} {us vs : Toks} {w v : Stack} → Is a us w →
    ((p : Out) → Is (run us w p) vs v) → Is a vs v
and_to (by p h) f = and_then h (f p)

put_then : (ts : Toks) (n : Note) (st : Stack) (o : Out) → To ts (s.Put n ▹ st) o ts st
put_then ts n st o = by (n ∷ o) (put_to ts n st o)

want_end : (m : Mark) (st : Stack) (o : Out) (ts : Toks) →
    To (plain (mark_kind m) ∷ ts) (s.Want m ▹ st) o ts st
want_end s.OpenRound st o ts = by o refl
want_end s.CloseRound st o ts = by o refl
want_end s.OpenBrace st o ts = by o refl
want_end s.CloseBrace st o ts = by o refl
want_end s.CloseSquare st o ts = by o refl
want_end s.Semi st o ts = by o refl
want_end s.Colon st o ts = by o refl
want_end s.Arrow st o ts = by o refl
want_end s.While st o ts = by o refl
want_end s.End st o ts = by o refl

-- a number is an expression, an operand, and operands
number_end : (ts : Toks) (st : Stack) (o : Out) → BehindExpr ts →
    To (a_number ∷ ts) (s.Expr ▹ st) o ts st
number_end ts st o h =
    and_to (put_then ts (note.Number 0 (pos 0)) (s.After s.First false 0 ▹ st) o)
    (λ p. first_end false 0 ts st p h)

operand_end : (ts : Toks) (st : Stack) (o : Out) → BehindExpr ts →
    To (a_number ∷ ts) (s.Operand ▹ st) o ts st
operand_end ts st o h =
    and_to (put_then ts (note.Number 0 (pos 0)) (s.After s.Then false 0 ▹ st) o)
    (λ p. then_end false 0 ts st p h)

level_end : (n : ℕ) (ts : Toks) (st : Stack) (o : Out) → BehindExpr ts →
    To (a_number ∷ ts) (s.Level n ▹ st) o ts st
level_end n ts st o h =
    and_to (operand_end ts (s.Tail n 0 0 ▹ st) o h) (λ p. tail_end n 0 0 ts st p h)

prim_end : (m : Mode) (ts : Toks) (st : Stack) (o : Out) → BehindExpr ts →
    To (a_name ∷ ts) (s.Prim m ▹ st) o ts st
prim_end s.First ts st o h =
    and_to (put_then ts (note.Name 0 (codes "a")) (s.After s.First true 0 ▹ st) o)
    (λ p. first_end true 0 ts st p h)
prim_end s.Then ts st o h =
    and_to (put_then ts (note.Name 0 (codes "a")) (s.After s.Then true 0 ▹ st) o)
    (λ p. then_end true 0 ts st p h)
prim_end s.Before ts st o h =
    and_to (put_then ts (note.Name 0 (codes "a")) (s.After s.Before true 0 ▹ st) o)
    (λ p. before_end 0 ts st p h)

place_end : (a : ℕ) (ts : Toks) (st : Stack) (o : Out) → BehindExpr ts →
    To (plain k.Dot ∷ a_name ∷ ts) (s.After s.Before false a ▹ st) o ts st
place_end a ts st o h =
    and_to (put_then ts (note.Member a (codes "a")) (s.After s.Before true a ▹ st) o)
    (λ p. before_end a ts st p h)

open_end : (a : ℕ) (ts : Toks) (st : Stack) (o : Out) → BehindExpr ts →
    To (a_number ∷ plain k.CloseRound ∷ ts) (s.Open a ▹ st) o ts st
open_end a ts st o h =
    and_to (put_then ts (note.Round a) (s.After s.First false a ▹ st) (note.Number 0 (pos 0) ∷ o))
    (λ p. first_end false a ts st p h)

given_end : (d : Binding) (ts : Toks) (st : Stack) (o : Out) → BehindExpr ts →
    To (plain (k.Assign assign.Set) ∷ a_number ∷ ts) (s.Given d ▹ st) o ts st
given_end d ts st o h =
    and_to (number_end ts (s.Put note.Given ▹ st) o h) (λ p. put_then ts note.Given st p)

decl_end : (d : Binding) (ts : Toks) (st : Stack) (o : Out) → BehindExpr ts →
    To (a_name ∷ plain (k.Assign assign.Set) ∷ a_number ∷ ts) (s.Decl d ▹ st) o ts st
decl_end d ts st o h =
    and_to
    (given_end d ts (s.Decls d ▹ st) (note.Named_ (named 0 (codes "a")) ∷ o) h)
    (λ p. decls_end d ts st p h)

code_end : (n : Note) (ts : Toks) (st : Stack) (o : Out) → To (a_code ts) (s.Code n ▹ st) o ts st
code_end n ts st o = put_then ts n st (note.Stmts ∷ note.Params ∷ o)

function_end : (a : ℕ) (ts : Toks) (st : Stack) (o : Out) →
    To (a_code ts) (s.Function a ▹ st) o ts st
function_end a ts st o = put_then ts (note.Function a) st (note.Stmts ∷ note.Params ∷ o)

init_end : (a : ℕ) (ts : Toks) (st : Stack) (o : Out) →
    To (plain k.Semi ∷ plain k.Semi ∷ plain k.CloseRound ∷ plain k.Semi ∷ ts) (s.Init a
    ▹ st) o ts st
init_end a ts st o =
    and_to
    (put_then ts (note.Empty 0) (s.Put (note.For a) ▹ st)
    (note.Absent ∷ note.Absent ∷ note.NoInit ∷ o))
    (λ p. put_then ts (note.For a) st p)

in_end : (a : ℕ) (d : Binding) (b : ℕ) (n : List ℕ) (ts : Toks) (st : Stack) (o : Out) →
    To (plain k.In ∷ a_number ∷ plain k.CloseRound ∷ plain k.Semi ∷ ts) (s.ForNext a d b n ▹ st) o
    ts st
in_end a d b n ts st o =
    and_to
    (put_then ts (note.Empty 0) (s.Put (note.ForIn a d) ▹ st)
    (note.Number 0 (pos 0) ∷ note.Named_ (named b n) ∷ o))
    (λ p. put_then ts (note.ForIn a d) st p)

-- each symbol is completed
ends : (y : Sym) (ts : Toks) (st : Stack) (o : Out) → Behind y ts →
    To (word_for y ts) (y ▹ st) o ts st
ends (s.Put n) ts st o h = put_then ts n st o
ends (s.Want m) ts st o h = want_end m st o ts
ends s.Name ts st o h = put_then ts (note.Named_ (named 0 (codes "a"))) st o
ends (s.Stmts l) ts st o h = stmts_end l ts st o h
ends (s.Stmt l) ts st o h = put_then ts (note.Empty 0) st o
ends (s.Else l a) ts st o h = else_end l a ts st o h
ends s.End ts st o h = by o refl
ends (s.Return a) ts st o h = put_then ts (note.Return a) st o
ends (s.Decl d) ts st o h = decl_end d ts st o h
ends (s.Given d) ts st o h = given_end d ts st o h
ends (s.Decls d) ts st o h = decls_end d ts st o h
ends (s.Init a) ts st o h = init_end a ts st o
ends (s.ForName a d) ts st o h = in_end a d 0 (codes "a") ts st o
ends (s.ForNext a d b n) ts st o h = in_end a d b n ts st o
ends s.Test ts st o h = put_then ts note.Absent st o
ends s.Last ts st o h = put_then ts note.Absent st o
ends s.Expr ts st o h = number_end ts st o h
ends s.Operand ts st o h = operand_end ts st o h
ends (s.Level n) ts st o h = level_end n ts st o h
ends (s.Prim m) ts st o h = prim_end m ts st o h
ends (s.After s.First p a) ts st o h = first_end p a ts st o h
ends (s.After s.Then p a) ts st o h = then_end p a ts st o h
ends (s.After s.Before true a) ts st o h = before_end a ts st o h
ends (s.After s.Before false a) ts st o h = place_end a ts st o h
ends (s.Tail n j a) ts st o h = tail_end n j a ts st o h
ends (s.Choose a) ts st o h = choose_end a ts st o h
ends (s.AfterName a n) ts st o h = name_end a n ts st o h
ends (s.Open a) ts st o h = open_end a ts st o h
ends (s.OpenName a b n) ts st o h = closed_end a b n ts st o h
ends (s.Closed a b n) ts st o h = closed_end a b n ts st o h
ends (s.Body a) ts st o h = and_to (number_end ts (s.Put (note.Arrow a)
    ▹ st) o h) (λ p. put_then ts (note.Arrow a) st p)
ends (s.Function a) ts st o h = function_end a ts st o
ends (s.Code n) ts st o h = code_end n ts st o
ends s.Names ts st o h = and_to (put_then ts (note.Param (named 0 (codes "a"))) (s.MoreNames
    ▹ st) o) (λ p. names_end ts st p h)
ends s.MoreNames ts st o h = names_end ts st o h
ends s.Params ts st o h = by o refl
ends s.Args ts st o h = by o refl
ends s.MoreArgs ts st o h = by o refl
ends s.Items ts st o h = by o refl
ends s.MoreItems ts st o h = by o refl
ends s.Members ts st o h = by o refl
ends s.MoreMembers ts st o h = by o refl
ends (s.Word a) ts st o h = put_then ts (note.Member a (codes "a")) st o

finished : {a : Option Out} {us : Toks} {w : Stack} → Is a us w →
    ((p : Out) → (q : Out) × (run us w p ≡ Some q)) → (q : Out) × (a ≡ Some q)
finished (by p h) f = ((f p).0, h ∙ (f p).1)

-- a stack is completed
pub finishes : (st : Stack) → Good st → (o : Out) → (q : Out) × (run (finish st) st o ≡ Some q)
finishes (Done test) h o = (o, ap (λ b. tested b o) h.0)
finishes (y ▹ st) h o = finished (ends y (finish st) st o h.0) (finishes st h.1)
