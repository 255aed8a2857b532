-- Each row of the table that reads arrows, lists and functions says the truth.
use Rattle.std.proofs.Common.{◌≡◌, ℕ, List, [], ◌∷◌, Bool, true, false, refl}
use Rattle.std.proofs.Common.{Option, Some, None, sym, ap, subst}
use Rattle.sjs_syntax.specs.Tree as tree
use Rattle.sjs_syntax.specs.Tree.{ExprTree, MaybeExpr, ExprTrees, MemberTrees, BodyTree}
use Rattle.sjs_syntax.specs.Tree.{PlaceTree, DeclaratorTrees, InitTree, StmtTree, MaybeStmt}
use Rattle.sjs_syntax.specs.Tree.{StmtTrees}
use Rattle.sjs_grammar.specs.Grammar as g
use Rattle.sjs_grammar.specs.Grammar.{named, value_of, EndsAt, NamesAt, ParamsAt, StmtsAt, StmtAt}
use Rattle.sjs_grammar.specs.Grammar.{DeclsAt, GivenAt, InitAt, TestAt, LastAt, CodeAt, BodyAt}
use Rattle.sjs_grammar.specs.Grammar.{ExprAt, LevelAt, UnAt, PlaceAt, CallAt, ArgsAt, SomeArgsAt}
use Rattle.sjs_grammar.specs.Grammar.{ItemsAt, MembersAt, Reads}
use Rattle.sjs_grammar.specs.Kinds as k
use Rattle.sjs_grammar.specs.Kinds.{Kind, Lit, word_of, key_of, level, needs_value}
use Rattle.sjs_grammar.specs.Tokens.{tok, Toks}
use Rattle.sjs_grammar.specs.Tokens.{brace_next}
use Rattle.sjs_table.specs.Notes as note
use Rattle.sjs_table.specs.Notes.{Note, Out}
use Rattle.sjs_table.specs.Runs.{Stack, ◌▹◌, onto}
use Rattle.sjs_table.specs.Symbols as s
use Rattle.sjs_table.specs.Symbols.{Sym, Mode, Mark}
use Rattle.sjs_table.specs.Table as table
use Rattle.sjs_table.specs.Table.{Act, Take, Pass, Stop, act, at_most, then, first}
use Rattle.sjs_sound.proofs.Meanings as m
use Rattle.sjs_sound.proofs.Meanings.{M, Spells, cons, Got, Placed, Local, Row, NoPass, unput}
use Rattle.sjs_sound.proofs.Meanings.{then_row, like_row, first_row, twice_row}
use Rattle.sjs_sound.proofs.ExprRows.{l_after}
use Rattle.sjs_sound.proofs.OperandRows.{l_expr, whole}

-- arrows

n_arrow : {a b : ℕ} {n : List ℕ} {x : Bool} {ts : Toks} {st : Stack} {o q : Out} →
    Spells (s.Put note.Params ▹ s.Put (note.Param (named a n)) ▹ s.Body a ▹ st) ts o q →
    Spells (s.AfterName a n ▹ st) (tok b x k.Arrow ∷ ts) o q
n_arrow {a} {n = n} (cons m.put_ (cons m.put_ (cons (m.body_ {f = f} d) h))) =
    cons (m.after_name_ (λ x. (tree.arrow a (named a n ∷ []) f, g.arrow_name d, refl))) h

-- a name goes on as an operand
name_of : {a : ℕ} {n : List ℕ} {ts r : Toks} {o q : Out} →
    M (s.After s.First true a) ts (note.Name a n ∷ o) r q → M (s.AfterName a n) ts o r q
name_of {a} {n} {ts} {o = o} (m.after_ f) =
    m.after_name_
    (λ x.
    f (tok a x (k.Name n) ∷ ts) (tree.name a n) o g.name
    (tree.name_place a n, g.name_place, refl)
    refl refl)

pub l_after_name : (t : Kind) (a : ℕ) (n : List ℕ) (b : ℕ) (x : Bool) (ts : Toks) (st : Stack)
    (o q : Out) → Row (s.AfterName a n) b x t ts st o q
l_after_name k.Arrow a n b x ts st o q = λ h. n_arrow h
l_after_name t a n b x ts st o q =
    first_row (s.AfterName a n) (s.After s.First true a) (note.Name a n) b x t ts st o q
    (table.after t x s.First true a)
    (λ w. l_after t s.First true a b x ts st (note.Name a n ∷ o) w)
    (λ r w. name_of)

round_of : {a : ℕ} {ts : Toks} {st : Stack} {o q : Out} →
    Spells
    (s.Expr ▹ s.Want s.CloseRound ▹ s.Put (note.Round a) ▹ s.After s.First false a ▹ st) ts o q →
    Spells (s.Open a ▹ st) ts o q
round_of {a} {ts} {o = o} (cons (m.expr_ d) (cons m.want_ (cons m.put_ (cons (m.after_ f) h)))) =
    cons
    (m.open_
    (λ x.
    f (tok a x k.OpenRound ∷ ts) (tree.round a d.0) o (g.round d.1) tt refl
    (ap (λ v. note.Round a ∷ v) d.2)))
    h

o_arrow : {a b : ℕ} {x : Bool} {ts : Toks} {st : Stack} {o q : Out} →
    Spells (s.Want s.Arrow ▹ s.Put note.Params ▹ s.Body a ▹ st) ts o q →
    Spells (s.Open a ▹ st) (tok b x k.CloseRound ∷ ts) o q
o_arrow {a} (cons m.want_ (cons m.put_ (cons (m.body_ {f = f} d) h))) =
    cons (m.open_ (λ x. (tree.arrow a [] f, g.arrow_round g.no_params d, refl))) h

o_name : {a b : ℕ} {n : List ℕ} {x : Bool} {ts : Toks} {st : Stack} {o q : Out} →
    Spells (s.OpenName a b n ▹ st) ts o q →
    Spells (s.Open a ▹ st) (tok b x (k.Name n) ∷ ts) o q
o_name {x = x} (cons (m.open_name_ f) h) = cons (m.open_ (λ y. f y x)) h

pub l_open : (t : Kind) (a b : ℕ) (x : Bool) (ts : Toks) (st : Stack) (o q : Out) →
    Row (s.Open a) b x t ts st o q
l_open k.CloseRound a b x ts st o q = λ h. o_arrow h
l_open (k.Name n) a b x ts st o q = λ h. o_name h
l_open t a b x ts st o q =
    then_row (s.Open a) s.Expr b x t ts (table.in_round a) st o q (table.expr t b)
    (l_expr t b x ts (onto (table.in_round a) st) o q) round_of

in_round : {a b : ℕ} {n : List ℕ} {ts : Toks} {st : Stack} {o q : Out} →
    Spells
    (s.AfterName b n ▹ s.Want s.CloseRound ▹ s.Put (note.Round a) ▹ s.After s.First false a ▹ st)
    ts o q →
    Spells (s.OpenName a b n ▹ st) ts o q
in_round {a} {b} {n} {ts} {o = o}
    (cons (m.after_name_ d) (cons m.want_ (cons m.put_ (cons (m.after_ f) h)))) =
    cons
    (m.open_name_
    (λ x y.
    let u = d y in
    f (tok a x k.OpenRound ∷ tok b y (k.Name n) ∷ ts) (tree.round a u.0) o (g.round u.1) tt refl
    (ap (λ v. note.Round a ∷ v) u.2)))
    h

on_comma : {a b c : ℕ} {n : List ℕ} {x : Bool} {ts : Toks} {st : Stack} {o q : Out} →
    Spells
    (s.Put note.Params ▹ s.Put (note.Param (named b n)) ▹ s.Names ▹ s.Want s.CloseRound
    ▹ s.Want s.Arrow ▹ s.Body a ▹ st)
    ts o q →
    Spells (s.OpenName a b n ▹ st) (tok c x k.Comma ∷ ts) o q
on_comma {a} {b} {n = n}
    (cons m.put_
    (cons m.put_
    (cons (m.names_ {ns = ns} d) (cons m.want_ (cons m.want_ (cons (m.body_ {f = f} e) h)))))) =
    cons
    (m.open_name_
    (λ x y.
    (tree.arrow a (named b n ∷ ns) f, g.arrow_round (g.params (g.more_names d)) e, refl)))
    h

on_closed : {a b c : ℕ} {n : List ℕ} {x : Bool} {ts : Toks} {st : Stack} {o q : Out} →
    Spells (s.Closed a b n ▹ st) ts o q →
    Spells (s.OpenName a b n ▹ st) (tok c x k.CloseRound ∷ ts) o q
on_closed {c = c} {x = z} (cons (m.closed_ f) h) = cons (m.open_name_ (λ x y. f c x y z)) h

pub l_open_name : (t : Kind) (a c : ℕ) (n : List ℕ) (b : ℕ) (x : Bool) (ts : Toks) (st : Stack)
    (o q : Out) → Row (s.OpenName a c n) b x t ts st o q
l_open_name k.Comma a c n b x ts st o q = λ h. on_comma h
l_open_name k.CloseRound a c n b x ts st o q = λ h. on_closed h
l_open_name t a c n b x ts st o q =
    then_row (s.OpenName a c n) (s.AfterName c n) b x t ts (table.in_round a) st o q
    (table.after_name t x c n)
    (l_after_name t c n b x ts (onto (table.in_round a) st) o q) in_round

closed_of : {a b : ℕ} {n : List ℕ} {ts r : Toks} {o q : Out} →
    M (s.After s.First false a) ts (note.Round a ∷ note.Name b n ∷ o) r q →
    M (s.Closed a b n) ts o r q
closed_of {a} {b} {n} {ts} {o = o} (m.after_ f) =
    m.closed_
    (λ c x y z.
    f (tok a x k.OpenRound ∷ tok b y (k.Name n) ∷ tok c z k.CloseRound ∷ ts)
    (tree.round a (tree.name b n)) o (g.round (whole g.name refl refl)) tt refl refl)

c_arrow : {a b c : ℕ} {n : List ℕ} {x : Bool} {ts : Toks} {st : Stack} {o q : Out} →
    Spells (s.Put note.Params ▹ s.Put (note.Param (named b n)) ▹ s.Body a ▹ st) ts o q →
    Spells (s.Closed a b n ▹ st) (tok c x k.Arrow ∷ ts) o q
c_arrow {a} {b} {n = n} (cons m.put_ (cons m.put_ (cons (m.body_ {f = f} d) h))) =
    cons
    (m.closed_
    (λ c x y z.
    (tree.arrow a (named b n ∷ []) f, g.arrow_round (g.params g.last_name) d, refl)))
    h

pub l_closed : (t : Kind) (a c : ℕ) (n : List ℕ) (b : ℕ) (x : Bool) (ts : Toks) (st : Stack)
    (o q : Out) → Row (s.Closed a c n) b x t ts st o q
l_closed k.Arrow a c n b x ts st o q = λ h. c_arrow h
l_closed t a c n b x ts st o q =
    twice_row (s.Closed a c n) (s.After s.First false a) (note.Name c n) (note.Round a)
    b x t ts st o q (table.after t x s.First false a)
    (λ w. l_after t s.First false a b x ts st (note.Round a ∷ note.Name c n ∷ o) w)
    (λ r w. closed_of)

body_block : {a b : ℕ} {x : Bool} {ts : Toks} {st : Stack} {o q : Out} →
    Spells
    (s.Put note.Stmts ▹ s.Stmts false ▹ s.Want s.CloseBrace ▹ s.Put (note.ArrowBlock a) ▹ st)
    ts o q →
    Spells (s.Body a ▹ st) (tok b x k.OpenBrace ∷ ts) o q
body_block (cons m.put_ (cons (m.stmts_ d) (cons m.want_ (cons m.put_ h)))) =
    cons (m.body_ (g.block_body d)) h

body_value : {a : ℕ} {ts : Toks} {st : Stack} {o q : Out} → brace_next ts ≡ false →
    Spells (s.Expr ▹ s.Put (note.Arrow a) ▹ st) ts o q → Spells (s.Body a ▹ st) ts o q
body_value {a} {ts} {o = o} n (cons (m.expr_ d) (cons {r = r} m.put_ h)) =
    cons
    (subst (λ w. M (s.Body a) ts o r (note.Arrow a ∷ w)) (sym d.2) (m.body_ (g.value_body n d.1)))
    h

pub l_body : (t : Kind) (a b : ℕ) (x : Bool) (ts : Toks) (st : Stack) (o q : Out) →
    Row (s.Body a) b x t ts st o q
l_body k.OpenBrace a b x ts st o q = λ h. body_block h
l_body t a b x ts st o q =
    then_row (s.Body a) s.Expr b x t ts (s.Put (note.Arrow a) ∷ []) st o q (table.expr t b)
    (l_expr t b x ts (s.Put (note.Arrow a) ▹ st) o q) (body_value refl)

-- functions

code_of : {n : Note} {b : ℕ} {x : Bool} {ts : Toks} {st : Stack} {o q : Out} →
    Spells
    (s.Put note.Params ▹ s.Params ▹ s.Want s.OpenBrace ▹ s.Put note.Stmts ▹ s.Stmts false
    ▹ s.Want s.CloseBrace ▹ s.Put n ▹ st)
    ts o q →
    Spells (s.Code n ▹ st) (tok b x k.OpenRound ∷ ts) o q
code_of
    (cons m.put_
    (cons (m.params_ d)
    (cons m.want_ (cons m.put_ (cons (m.stmts_ e) (cons m.want_ (cons m.put_ h))))))) =
    cons (m.code_ (g.code d e)) h

pub l_code : (t : Kind) (n : Note) (b : ℕ) (x : Bool) (ts : Toks) (st : Stack) (o q : Out) →
    Row (s.Code n) b x t ts st o q
l_code k.OpenRound n b x ts st o q = λ h. code_of h
l_code t n b x ts st o q = tt

f_named : {a b : ℕ} {n : List ℕ} {x : Bool} {ts : Toks} {st : Stack} {o q : Out} →
    Spells (s.Put (note.Named_ (named b n)) ▹ s.Code (note.FunctionNamed a) ▹ st) ts o q →
    Spells (s.Function a ▹ st) (tok b x (k.Name n) ∷ ts) o q
f_named (cons m.put_ (cons (m.code_ d) h)) = cons (m.function_named_ d) h

f_bare : {a : ℕ} {ts : Toks} {st : Stack} {o q : Out} →
    Spells (s.Code (note.Function a) ▹ st) ts o q → Spells (s.Function a ▹ st) ts o q
f_bare (cons (m.code_ d) h) = cons (m.function_ d) h

pub l_function : (t : Kind) (a b : ℕ) (x : Bool) (ts : Toks) (st : Stack) (o q : Out) →
    Row (s.Function a) b x t ts st o q
l_function (k.Name n) a b x ts st o q = λ h. f_named h
l_function k.OpenRound a b x ts st o q = λ h. f_bare (code_of h)
l_function t a b x ts st o q = tt

-- names

names_of : {b : ℕ} {n : List ℕ} {x : Bool} {ts : Toks} {st : Stack} {o q : Out} →
    Spells (s.Put (note.Param (named b n)) ▹ s.MoreNames ▹ st) ts o q →
    Spells (s.Names ▹ st) (tok b x (k.Name n) ∷ ts) o q
names_of (cons m.put_ (cons m.no_more_ h)) = cons (m.names_ g.last_name) h
names_of (cons m.put_ (cons (m.more_names_ d) h)) = cons (m.names_ (g.more_names d)) h

pub l_names : (t : Kind) (b : ℕ) (x : Bool) (ts : Toks) (st : Stack) (o q : Out) →
    Row s.Names b x t ts st o q
l_names (k.Name n) b x ts st o q = λ h. names_of h
l_names t b x ts st o q = tt

more_names_of : {b : ℕ} {x : Bool} {ts : Toks} {st : Stack} {o q : Out} →
    Spells (s.Names ▹ st) ts o q → Spells (s.MoreNames ▹ st) (tok b x k.Comma ∷ ts) o q
more_names_of (cons (m.names_ d) h) = cons (m.more_names_ d) h

pub l_more_names : (t : Kind) (b : ℕ) (x : Bool) (ts : Toks) (st : Stack) (o q : Out) →
    Row s.MoreNames b x t ts st o q
l_more_names k.Comma b x ts st o q = λ h. more_names_of h
l_more_names k.CloseRound b x ts st o q = m.no_more_
l_more_names t b x ts st o q = tt

params_of : {ts : Toks} {st : Stack} {o q : Out} →
    Spells (s.Names ▹ s.Want s.CloseRound ▹ st) ts o q → Spells (s.Params ▹ st) ts o q
params_of (cons (m.names_ d) (cons m.want_ h)) = cons (m.params_ (g.params d)) h

pub l_params : (t : Kind) (b : ℕ) (x : Bool) (ts : Toks) (st : Stack) (o q : Out) →
    Row s.Params b x t ts st o q
l_params k.CloseRound b x ts st o q = λ h. cons (m.params_ g.no_params) h
l_params t b x ts st o q =
    then_row s.Params s.Names b x t ts (s.Want s.CloseRound ∷ []) st o q (table.names t b)
    (l_names t b x ts (s.Want s.CloseRound ▹ st) o q) params_of

-- lists

args_of : {ts : Toks} {st : Stack} {o q : Out} →
    Spells (s.Expr ▹ s.Put note.Expr ▹ s.MoreArgs ▹ st) ts o q → Spells (s.Args ▹ st) ts o q
args_of {ts} {o = o} (cons (m.expr_ d) (cons m.put_ (cons {r = r} m.no_args_ h))) =
    cons
    (subst (λ v. M s.Args ts o r (note.Expr ∷ v)) (sym d.2) (m.args_ (g.args (g.last_arg d.1))))
    h
args_of {ts} {o = o} (cons (m.expr_ d) (cons m.put_ (cons {r = r} (m.some_args_ {es = es} ds) h))) =
    cons
    (subst (λ v. M s.Args ts o r (note.exprs es (note.Expr ∷ v))) (sym d.2)
    (m.args_ (g.args (g.more_args d.1 ds))))
    h

pub l_args : (t : Kind) (b : ℕ) (x : Bool) (ts : Toks) (st : Stack) (o q : Out) →
    Row s.Args b x t ts st o q
l_args k.CloseRound b x ts st o q = λ h. cons (m.args_ g.no_args) h
l_args t b x ts st o q =
    then_row s.Args s.Expr b x t ts (s.Put note.Expr ∷ s.MoreArgs ∷ []) st o q (table.expr t b)
    (l_expr t b x ts (s.Put note.Expr ▹ s.MoreArgs ▹ st) o q) args_of

more_args_of : {b : ℕ} {x : Bool} {ts : Toks} {st : Stack} {o q : Out} →
    Spells (s.Expr ▹ s.Put note.Expr ▹ s.MoreArgs ▹ st) ts o q →
    Spells (s.MoreArgs ▹ st) (tok b x k.Comma ∷ ts) o q
more_args_of {b} {x} {ts} {o = o} (cons (m.expr_ d) (cons m.put_ (cons {r = r} m.no_args_ h))) =
    cons
    (subst (λ v. M s.MoreArgs (tok b x k.Comma ∷ ts) o r (note.Expr ∷ v)) (sym d.2)
    (m.some_args_ (g.last_arg d.1)))
    h
more_args_of {b} {x} {ts} {o = o}
    (cons (m.expr_ d) (cons m.put_ (cons {r = r} (m.some_args_ {es = es} ds) h))) =
    cons
    (subst (λ v. M s.MoreArgs (tok b x k.Comma ∷ ts) o r (note.exprs es (note.Expr ∷ v))) (sym d.2)
    (m.some_args_ (g.more_args d.1 ds)))
    h

pub l_more_args : (t : Kind) (b : ℕ) (x : Bool) (ts : Toks) (st : Stack) (o q : Out) →
    Row s.MoreArgs b x t ts st o q
l_more_args k.Comma b x ts st o q = λ h. more_args_of h
l_more_args k.CloseRound b x ts st o q = λ h. cons m.no_args_ h
l_more_args t b x ts st o q = tt

items_of : {ts : Toks} {st : Stack} {o q : Out} →
    Spells (s.Expr ▹ s.Put note.Expr ▹ s.MoreItems ▹ st) ts o q → Spells (s.Items ▹ st) ts o q
items_of {ts} {o = o} (cons (m.expr_ d) (cons m.put_ (cons {r = r} m.no_items_ h))) =
    cons
    (subst (λ v. M s.Items ts o r (note.Expr ∷ v)) (sym d.2) (m.items_ (g.last_item d.1)))
    h
items_of {ts} {o = o}
    (cons (m.expr_ d) (cons m.put_ (cons {r = r} (m.some_items_ {es = es} ds) h))) =
    cons
    (subst (λ v. M s.Items ts o r (note.exprs es (note.Expr ∷ v))) (sym d.2)
    (m.items_ (g.more_items d.1 ds)))
    h

pub l_items : (t : Kind) (b : ℕ) (x : Bool) (ts : Toks) (st : Stack) (o q : Out) →
    Row s.Items b x t ts st o q
l_items k.CloseSquare b x ts st o q = λ h. cons (m.items_ g.no_items) h
l_items t b x ts st o q =
    then_row s.Items s.Expr b x t ts (s.Put note.Expr ∷ s.MoreItems ∷ []) st o q (table.expr t b)
    (l_expr t b x ts (s.Put note.Expr ▹ s.MoreItems ▹ st) o q) items_of

more_items_of : {b : ℕ} {x : Bool} {ts : Toks} {st : Stack} {o q : Out} →
    Spells (s.Items ▹ st) ts o q → Spells (s.MoreItems ▹ st) (tok b x k.Comma ∷ ts) o q
more_items_of (cons (m.items_ d) h) = cons (m.some_items_ d) h

pub l_more_items : (t : Kind) (b : ℕ) (x : Bool) (ts : Toks) (st : Stack) (o q : Out) →
    Row s.MoreItems b x t ts st o q
l_more_items k.Comma b x ts st o q = λ h. more_items_of h
l_more_items k.CloseSquare b x ts st o q = λ h. cons m.no_items_ h
l_more_items t b x ts st o q = tt

-- objects

keyed_of : {b : ℕ} {x : Bool} {t : Kind} {w : List ℕ} {ts : Toks} {st : Stack} {o q : Out} →
    key_of t ≡ Some w →
    Spells
    (s.Put (note.Key b w) ▹ s.Want s.Colon ▹ s.Expr ▹ s.Put note.Member_ ▹ s.MoreMembers ▹ st)
    ts o q →
    Spells (s.Members ▹ st) (tok b x t ∷ ts) o q
keyed_of {b} {x} {t} {o = o} e
    (cons m.put_
    (cons (m.want_ {a = c} {x = y} {r = us})
    (cons (m.expr_ d) (cons m.put_ (cons {r = r} m.no_members_ h))))) =
    cons
    (subst (λ v. M s.Members (tok b x t ∷ tok c y k.Colon ∷ us) o r (note.Member_ ∷ v)) (sym d.2)
    (m.members_ (g.last_member e d.1)))
    h
keyed_of {b} {x} {t} {o = o} e
    (cons m.put_
    (cons (m.want_ {a = c} {x = y} {r = us})
    (cons (m.expr_ d) (cons m.put_ (cons {r = r} (m.some_members_ {ms = ms} ds) h))))) =
    cons
    (subst
    (λ v.
    M s.Members (tok b x t ∷ tok c y k.Colon ∷ us) o r (note.members ms (note.Member_ ∷ v)))
    (sym d.2)
    (m.members_ (g.more_members e d.1 ds)))
    h

l_keyed : (w : Option (List ℕ)) (t : Kind) (b : ℕ) (x : Bool) (ts : Toks) (st : Stack)
    (o q : Out) → key_of t ≡ w → Local s.Members b x t ts st o q (table.keyed w b)
l_keyed (Some w) t b x ts st o q e = λ h. keyed_of e h
l_keyed None t b x ts st o q e = tt

pub l_members : (t : Kind) (b : ℕ) (x : Bool) (ts : Toks) (st : Stack) (o q : Out) →
    Row s.Members b x t ts st o q
l_members k.CloseBrace b x ts st o q = λ h. cons (m.members_ g.no_members) h
l_members t b x ts st o q = l_keyed (key_of t) t b x ts st o q refl

more_members_of : {b : ℕ} {x : Bool} {ts : Toks} {st : Stack} {o q : Out} →
    Spells (s.Members ▹ st) ts o q → Spells (s.MoreMembers ▹ st) (tok b x k.Comma ∷ ts) o q
more_members_of (cons (m.members_ d) h) = cons (m.some_members_ d) h

pub l_more_members : (t : Kind) (b : ℕ) (x : Bool) (ts : Toks) (st : Stack) (o q : Out) →
    Row s.MoreMembers b x t ts st o q
l_more_members k.Comma b x ts st o q = λ h. more_members_of h
l_more_members k.CloseBrace b x ts st o q = λ h. cons m.no_members_ h
l_more_members t b x ts st o q = tt

l_worded : (w : Option (List ℕ)) (t : Kind) (at b : ℕ) (x : Bool) (ts : Toks) (st : Stack)
    (o q : Out) → word_of t ≡ w → Local (s.Word at) b x t ts st o q (table.word w at)
l_worded (Some w) t at b x ts st o q e = λ h. cons (m.word_ e) (unput h)
l_worded None t at b x ts st o q e = tt

pub l_word : (t : Kind) (at b : ℕ) (x : Bool) (ts : Toks) (st : Stack) (o q : Out) →
    Row (s.Word at) b x t ts st o q
l_word t at b x ts st o q = l_worded (word_of t) t at b x ts st o q refl
