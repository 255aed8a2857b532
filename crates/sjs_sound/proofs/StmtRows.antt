-- Each row of the table that reads statements says the truth.
use Rattle.std.proofs.Common.{◌≡◌, ℕ, List, [], ◌∷◌, Bool, true, false, refl}
use Rattle.std.proofs.Common.{sym, subst}
use Rattle.sjs_syntax.specs.declared.signs.AssignSign.TheVariants as assign
use Rattle.sjs_syntax.specs.declared.statements.Binding.{Binding}
use Rattle.sjs_syntax.specs.declared.statements.Binding.TheVariants as binding
use Rattle.sjs_grammar.specs.Grammar as g
use Rattle.sjs_grammar.specs.Grammar.{named, value_of, EndsAt, NamesAt, ParamsAt, StmtsAt, StmtAt}
use Rattle.sjs_grammar.specs.Grammar.{DeclsAt, GivenAt, InitAt, TestAt, LastAt, CodeAt, BodyAt}
use Rattle.sjs_grammar.specs.Grammar.{ExprAt, LevelAt, UnAt, PlaceAt, CallAt, ArgsAt, SomeArgsAt}
use Rattle.sjs_grammar.specs.Grammar.{ItemsAt, MembersAt, Reads}
use Rattle.sjs_grammar.specs.Kinds as k
use Rattle.sjs_grammar.specs.Kinds.{Kind, Lit, word_of, key_of, level, needs_value}
use Rattle.sjs_grammar.specs.Tokens.{tok, Toks, broken}
use Rattle.sjs_grammar.specs.Tokens.{brace_or_function_next}
use Rattle.sjs_table.specs.Notes as note
use Rattle.sjs_table.specs.Notes.{Note, Out}
use Rattle.sjs_table.specs.Runs.{Stack, ◌▹◌}
use Rattle.sjs_table.specs.Symbols as s
use Rattle.sjs_table.specs.Symbols.{Sym, Mode, Mark}
use Rattle.sjs_table.specs.Table as table
use Rattle.sjs_table.specs.Table.{Act, Take, Pass, Stop, act, at_most, then, first}
use Rattle.sjs_sound.proofs.Meanings as m
use Rattle.sjs_sound.proofs.Meanings.{M, Spells, cons, Got, Placed, Local, Row, NoPass, unput}
use Rattle.sjs_sound.proofs.Meanings.{then_row, like_row, first_row, twice_row}
use Rattle.sjs_sound.proofs.OperandRows.{l_expr}

pub l_want : (w : Mark) (t : Kind) (b : ℕ) (x : Bool) (ts : Toks) (st : Stack) (o q : Out) →
    Row (s.Want w) b x t ts st o q
l_want s.OpenRound k.OpenRound b x ts st o q = λ h. cons m.want_ h
l_want s.CloseRound k.CloseRound b x ts st o q = λ h. cons m.want_ h
l_want s.OpenBrace k.OpenBrace b x ts st o q = λ h. cons m.want_ h
l_want s.CloseBrace k.CloseBrace b x ts st o q = λ h. cons m.want_ h
l_want s.CloseSquare k.CloseSquare b x ts st o q = λ h. cons m.want_ h
l_want s.Semi k.Semi b x ts st o q = λ h. cons m.want_ h
l_want s.Colon k.Colon b x ts st o q = λ h. cons m.want_ h
l_want s.Arrow k.Arrow b x ts st o q = λ h. cons m.want_ h
l_want s.While k.While b x ts st o q = λ h. cons m.want_ h
l_want s.End k.End b x ts st o q = λ h. cons m.want_ h
l_want w t b x ts st o q = tt

pub l_name : (t : Kind) (b : ℕ) (x : Bool) (ts : Toks) (st : Stack) (o q : Out) →
    Row s.Name b x t ts st o q
l_name (k.Name n) b x ts st o q = λ h. cons m.name_ (unput h)
l_name t b x ts st o q = tt

-- what a statement is read from

block_of : {l : Bool} {a : ℕ} {x : Bool} {ts : Toks} {st : Stack} {o q : Out} →
    Spells (s.Put note.Stmts ▹ s.Stmts l ▹ s.Want s.CloseBrace ▹ s.Put (note.Block a) ▹ st) ts o q →
    Spells (s.Stmt l ▹ st) (tok a x k.OpenBrace ∷ ts) o q
block_of (cons m.put_ (cons (m.stmts_ d) (cons m.want_ (cons m.put_ h)))) =
    cons (m.stmt_ (g.block d)) h

empty_of : {l : Bool} {a : ℕ} {x : Bool} {ts : Toks} {st : Stack} {o q : Out} →
    Spells (s.Put (note.Empty a) ▹ st) ts o q →
    Spells (s.Stmt l ▹ st) (tok a x k.Semi ∷ ts) o q
empty_of (cons m.put_ h) = cons (m.stmt_ g.empty) h

declare_of :
    {l : Bool} {a : ℕ} {x : Bool} {d : Binding} {ts : Toks} {st : Stack} {o q : Out} →
    Spells (s.Put note.Decls ▹ s.Decl d ▹ s.End ▹ s.Put (note.Declare a d) ▹ st) ts o q →
    Spells (s.Stmt l ▹ st) (tok a x (k.Bind d) ∷ ts) o q
declare_of (cons m.put_ (cons (m.decl_ d) (cons (m.end_ e) (cons m.put_ h)))) =
    cons (m.stmt_ (g.declare d e)) h

function_of : {l : Bool} {a : ℕ} {x : Bool} {ts : Toks} {st : Stack} {o q : Out} →
    Spells (s.Name ▹ s.Code (note.FunctionStmt a) ▹ st) ts o q →
    Spells (s.Stmt l ▹ st) (tok a x k.Function ∷ ts) o q
function_of (cons m.name_ (cons (m.code_ d) h)) = cons (m.stmt_ (g.named_function d)) h

if_of : {l : Bool} {a : ℕ} {x : Bool} {ts : Toks} {st : Stack} {o q : Out} →
    Spells
    (s.Want s.OpenRound ▹ s.Expr ▹ s.Want s.CloseRound ▹ s.Stmt l ▹ s.Else l a ▹ st) ts o q →
    Spells (s.Stmt l ▹ st) (tok a x k.If ∷ ts) o q
if_of {l} {a} {x} {o = o}
    (cons (m.want_ {a = b} {x = y} {r = us})
    (cons (m.expr_ d)
    (cons m.want_ (cons (m.stmt_ {d = c} e) (cons {r = r} (m.no_else_ n) h))))) =
    cons
    (subst
    (λ v.
    M (s.Stmt l) (tok a x k.If ∷ tok b y k.OpenRound ∷ us) o r (note.If a ∷ note.stmt c v))
    (sym d.2)
    (m.stmt_ (g.if_ d.1 e n)))
    h
if_of {l} {a} {x} {o = o}
    (cons (m.want_ {a = b} {x = y} {r = us})
    (cons (m.expr_ d)
    (cons m.want_ (cons (m.stmt_ {d = c} e) (cons {r = r} (m.else_ {d = i} f) h))))) =
    cons
    (subst
    (λ v.
    M (s.Stmt l) (tok a x k.If ∷ tok b y k.OpenRound ∷ us) o r
    (note.IfElse a ∷ note.stmt i (note.stmt c v)))
    (sym d.2)
    (m.stmt_ (g.if_else d.1 e f)))
    h

while_of : {l : Bool} {a : ℕ} {x : Bool} {ts : Toks} {st : Stack} {o q : Out} →
    Spells
    (s.Want s.OpenRound ▹ s.Expr ▹ s.Want s.CloseRound ▹ s.Stmt true ▹ s.Put (note.While a) ▹ st)
    ts o q →
    Spells (s.Stmt l ▹ st) (tok a x k.While ∷ ts) o q
while_of {l} {a} {x} {o = o}
    (cons (m.want_ {a = b} {x = y} {r = us})
    (cons (m.expr_ d) (cons m.want_ (cons (m.stmt_ {d = c} e) (cons {r = r} m.put_ h))))) =
    cons
    (subst
    (λ v.
    M (s.Stmt l) (tok a x k.While ∷ tok b y k.OpenRound ∷ us) o r
    (note.While a ∷ note.stmt c v))
    (sym d.2)
    (m.stmt_ (g.while_ d.1 e)))
    h

do_of : {l : Bool} {a : ℕ} {x : Bool} {ts : Toks} {st : Stack} {o q : Out} →
    Spells
    (s.Stmt true ▹ s.Want s.While ▹ s.Want s.OpenRound ▹ s.Expr ▹ s.Want s.CloseRound ▹ s.End
    ▹ s.Put (note.DoWhile a) ▹ st)
    ts o q →
    Spells (s.Stmt l ▹ st) (tok a x k.Do ∷ ts) o q
do_of {l} {a} {x} {ts} {o = o}
    (cons (m.stmt_ e)
    (cons m.want_
    (cons m.want_
    (cons (m.expr_ d) (cons m.want_ (cons (m.end_ f) (cons {r = r} m.put_ h))))))) =
    cons
    (subst (λ v. M (s.Stmt l) (tok a x k.Do ∷ ts) o r (note.DoWhile a ∷ v)) (sym d.2)
    (m.stmt_ (g.do_while e d.1 f)))
    h

for_of : {l : Bool} {a : ℕ} {x : Bool} {ts : Toks} {st : Stack} {o q : Out} →
    Spells (s.Want s.OpenRound ▹ s.Init a ▹ st) ts o q →
    Spells (s.Stmt l ▹ st) (tok a x k.For ∷ ts) o q
for_of (cons m.want_ (cons (m.init_ i e f d) h)) = cons (m.stmt_ (g.for_ i e f d)) h
for_of (cons m.want_ (cons (m.init_in_ e d) h)) = cons (m.stmt_ (g.for_in e d)) h

break_of : {a : ℕ} {x : Bool} {ts : Toks} {st : Stack} {o q : Out} →
    Spells (s.End ▹ s.Put (note.Break a) ▹ st) ts o q →
    Spells (s.Stmt true ▹ st) (tok a x k.Break ∷ ts) o q
break_of (cons (m.end_ e) (cons m.put_ h)) = cons (m.stmt_ (g.break_ e)) h

continue_of : {a : ℕ} {x : Bool} {ts : Toks} {st : Stack} {o q : Out} →
    Spells (s.End ▹ s.Put (note.Continue a) ▹ st) ts o q →
    Spells (s.Stmt true ▹ st) (tok a x k.Continue ∷ ts) o q
continue_of (cons (m.end_ e) (cons m.put_ h)) = cons (m.stmt_ (g.continue_ e)) h

return_of : {l : Bool} {a : ℕ} {x : Bool} {ts : Toks} {st : Stack} {o q : Out} →
    Spells (s.Return a ▹ st) ts o q → Spells (s.Stmt l ▹ st) (tok a x k.Return ∷ ts) o q
return_of (cons (m.return_ e) h) = cons (m.stmt_ (g.return_ e)) h
return_of (cons (m.return_value_ n d e) h) = cons (m.stmt_ (g.return_value n d e)) h

value_of_ : {l : Bool} {b : ℕ} {x : Bool} {t : Kind} {ts : Toks} {st : Stack} {o q : Out} →
    brace_or_function_next (tok b x t ∷ ts) ≡ false →
    Spells (s.Expr ▹ s.End ▹ s.Put (note.Value b) ▹ st) (tok b x t ∷ ts) o q →
    Spells (s.Stmt l ▹ st) (tok b x t ∷ ts) o q
value_of_ {l} {b} {x} {t} {ts} {o = o} n
    (cons (m.expr_ d) (cons (m.end_ e) (cons {r = r} m.put_ h))) =
    cons
    (subst (λ v. M (s.Stmt l) (tok b x t ∷ ts) o r (note.Value b ∷ v)) (sym d.2)
    (m.stmt_ (g.value n d.1 e)))
    h

pub l_stmt : (t : Kind) (l : Bool) (b : ℕ) (x : Bool) (ts : Toks) (st : Stack) (o q : Out) →
    Row (s.Stmt l) b x t ts st o q
l_stmt k.OpenBrace l b x ts st o q = λ h. block_of h
l_stmt k.Semi l b x ts st o q = λ h. empty_of h
l_stmt (k.Bind d) l b x ts st o q = λ h. declare_of h
l_stmt k.Function l b x ts st o q = λ h. function_of h
l_stmt k.If l b x ts st o q = λ h. if_of h
l_stmt k.While l b x ts st o q = λ h. while_of h
l_stmt k.Do l b x ts st o q = λ h. do_of h
l_stmt k.For l b x ts st o q = λ h. for_of h
l_stmt k.Break true b x ts st o q = λ h. break_of h
l_stmt k.Break false b x ts st o q = tt
l_stmt k.Continue true b x ts st o q = λ h. continue_of h
l_stmt k.Continue false b x ts st o q = tt
l_stmt k.Return l b x ts st o q = λ h. return_of h
l_stmt t l b x ts st o q =
    then_row (s.Stmt l) s.Expr b x t ts (s.End ∷ s.Put (note.Value b) ∷ []) st o q
    (table.expr t b)
    (l_expr t b x ts (s.End ▹ s.Put (note.Value b) ▹ st) o q) (value_of_ refl)

stmts_of : {l : Bool} {ts : Toks} {st : Stack} {o q : Out} →
    Spells (s.Stmt l ▹ s.Put note.Stmt ▹ s.Stmts l ▹ st) ts o q → Spells (s.Stmts l ▹ st) ts o q
stmts_of (cons (m.stmt_ d) (cons m.put_ (cons (m.stmts_ ds) h))) =
    cons (m.stmts_ (g.more_stmts d ds)) h

pub l_stmts : (t : Kind) (l : Bool) (b : ℕ) (x : Bool) (ts : Toks) (st : Stack) (o q : Out) →
    Row (s.Stmts l) b x t ts st o q
l_stmts k.CloseBrace l b x ts st o q = m.stmts_ g.stmts_to_brace
l_stmts k.End l b x ts st o q = m.stmts_ g.stmts_to_end
l_stmts t l b x ts st o q =
    then_row (s.Stmts l) (s.Stmt l) b x t ts (s.Put note.Stmt ∷ s.Stmts l ∷ []) st o q
    (table.stmt t l b)
    (l_stmt t l b x ts (s.Put note.Stmt ▹ s.Stmts l ▹ st) o q) stmts_of

else_of : {l : Bool} {a b : ℕ} {x : Bool} {ts : Toks} {st : Stack} {o q : Out} →
    Spells (s.Stmt l ▹ s.Put (note.IfElse a) ▹ st) ts o q →
    Spells (s.Else l a ▹ st) (tok b x k.Else ∷ ts) o q
else_of (cons (m.stmt_ d) (cons m.put_ h)) = cons (m.else_ d) h

pub l_else : (t : Kind) (l : Bool) (a b : ℕ) (x : Bool) (ts : Toks) (st : Stack) (o q : Out) →
    Row (s.Else l a) b x t ts st o q
l_else k.Else l a b x ts st o q = λ h. else_of h
l_else t l a b x ts st o q = m.no_else_ refl

pub l_end : (t : Kind) (b : ℕ) (x : Bool) (ts : Toks) (st : Stack) (o q : Out) →
    Row s.End b x t ts st o q
l_end k.Semi b x ts st o q = λ h. cons (m.end_ g.semi) h
l_end k.CloseBrace b x ts st o q = m.end_ g.brace
l_end k.End b x ts st o q = m.end_ g.end
l_end t b true ts st o q = m.end_ (g.line refl)
l_end t b false ts st o q = tt

returned : {a : ℕ} {ts : Toks} {st : Stack} {o q : Out} → broken ts ≡ false →
    Spells (s.Expr ▹ s.End ▹ s.Put (note.ReturnValue a) ▹ st) ts o q →
    Spells (s.Return a ▹ st) ts o q
returned {a} {ts} {o = o} n (cons (m.expr_ d) (cons (m.end_ e) (cons {r = r} m.put_ h))) =
    cons
    (subst (λ v. M (s.Return a) ts o r (note.ReturnValue a ∷ v)) (sym d.2)
    (m.return_value_ n d.1 e))
    h

pub l_return : (t : Kind) (a b : ℕ) (x : Bool) (ts : Toks) (st : Stack) (o q : Out) →
    Row (s.Return a) b x t ts st o q
l_return k.Semi a b x ts st o q = λ h. cons (m.return_ g.semi) (unput h)
l_return k.CloseBrace a b x ts st o q = m.return_ g.brace
l_return k.End a b x ts st o q = m.return_ g.end
l_return t a b true ts st o q = m.return_ (g.line refl)
l_return t a b false ts st o q =
    then_row (s.Return a) s.Expr b false t ts (s.End ∷ s.Put (note.ReturnValue a) ∷ []) st o q
    (table.expr t b)
    (l_expr t b false ts (s.End ▹ s.Put (note.ReturnValue a) ▹ st) o q) (returned refl)

-- declared names

decl_of : {d : Binding} {b : ℕ} {n : List ℕ} {x : Bool} {ts : Toks} {st : Stack} {o q : Out} →
    Spells (s.Put (note.Named_ (named b n)) ▹ s.Given d ▹ s.Decls d ▹ st) ts o q →
    Spells (s.Decl d ▹ st) (tok b x (k.Name n) ∷ ts) o q
decl_of (cons m.put_ (cons (m.given_ e) (cons (m.no_decls_ c) h))) =
    cons (m.decl_ (g.last_decl e c)) h
decl_of (cons m.put_ (cons (m.given_ e) (cons (m.decls_ d) h))) =
    cons (m.decl_ (g.more_decls e d)) h

pub l_decl : (t : Kind) (d : Binding) (b : ℕ) (x : Bool) (ts : Toks) (st : Stack) (o q : Out) →
    Row (s.Decl d) b x t ts st o q
l_decl (k.Name n) d b x ts st o q = λ h. decl_of h
l_decl t d b x ts st o q = tt

given_of : {d : Binding} {b : ℕ} {x : Bool} {ts : Toks} {st : Stack} {o q : Out} →
    Spells (s.Expr ▹ s.Put note.Given ▹ st) ts o q →
    Spells (s.Given d ▹ st) (tok b x (k.Assign assign.Set) ∷ ts) o q
given_of {d} {b} {x} {ts} {o = o} (cons (m.expr_ e) (cons {r = r} m.put_ h)) =
    cons
    (subst
    (λ v. M (s.Given d) (tok b x (k.Assign assign.Set) ∷ ts) o r (note.Given ∷ v))
    (sym e.2)
    (m.given_ (g.given e.1)))
    h

pub l_given : (t : Kind) (d : Binding) (b : ℕ) (x : Bool) (ts : Toks) (st : Stack) (o q : Out) →
    Row (s.Given d) b x t ts st o q
l_given (k.Assign assign.Set) d b x ts st o q = λ h. given_of h
l_given t binding.Var b x ts st o q = m.given_ (g.not_given refl refl)
l_given t binding.Let b x ts st o q = m.given_ (g.not_given refl refl)
l_given t binding.Const b x ts st o q = tt

decls_of : {d : Binding} {b : ℕ} {x : Bool} {ts : Toks} {st : Stack} {o q : Out} →
    Spells (s.Decl d ▹ st) ts o q → Spells (s.Decls d ▹ st) (tok b x k.Comma ∷ ts) o q
decls_of (cons (m.decl_ d) h) = cons (m.decls_ d) h

pub l_decls : (t : Kind) (d : Binding) (b : ℕ) (x : Bool) (ts : Toks) (st : Stack) (o q : Out) →
    Row (s.Decls d) b x t ts st o q
l_decls k.Comma d b x ts st o q = λ h. decls_of h
l_decls t d b x ts st o q = m.no_decls_ refl
