-- Each row of the table that reads the brackets of a `for` says the truth.
use Rattle.std.proofs.Common.{◌≡◌, ℕ, List, [], ◌∷◌, Bool, true, false, refl}
use Rattle.std.proofs.Common.{sym, subst}
use Rattle.sjs_syntax.specs.declared.signs.AssignSign.TheVariants as assign
use Rattle.sjs_syntax.specs.declared.statements.Binding.{Binding}
use Rattle.sjs_syntax.specs.declared.statements.Binding.TheVariants as binding
use Rattle.sjs_grammar.specs.Grammar as g
use Rattle.sjs_grammar.specs.Grammar.{named, value_of, EndsAt, NamesAt, ParamsAt, StmtsAt, StmtAt}
use Rattle.sjs_grammar.specs.Grammar.{DeclsAt, GivenAt, InitAt, TestAt, LastAt, CodeAt, BodyAt}
use Rattle.sjs_grammar.specs.Grammar.{ExprAt, LevelAt, UnAt, PlaceAt, CallAt, ArgsAt, SomeArgsAt}
use Rattle.sjs_grammar.specs.Grammar.{ItemsAt, MembersAt, Reads}
use Rattle.sjs_grammar.specs.Kinds as k
use Rattle.sjs_grammar.specs.Kinds.{Kind, Lit, word_of, key_of, level, needs_value}
use Rattle.sjs_grammar.specs.Tokens.{tok, Toks}
use Rattle.sjs_table.specs.Notes as note
use Rattle.sjs_table.specs.Notes.{Note, Out}
use Rattle.sjs_table.specs.Runs.{Stack, ◌▹◌, onto}
use Rattle.sjs_table.specs.Symbols as s
use Rattle.sjs_table.specs.Symbols.{Sym, Mode, Mark}
use Rattle.sjs_table.specs.Table as table
use Rattle.sjs_table.specs.Table.{Act, Take, Pass, Stop, act, at_most, then, first}
use Rattle.sjs_sound.proofs.Meanings as m
use Rattle.sjs_sound.proofs.Meanings.{M, Spells, cons, Got, Placed, Local, Row, NoPass, unput}
use Rattle.sjs_sound.proofs.Meanings.{then_row, like_row, first_row, twice_row}
use Rattle.sjs_sound.proofs.OperandRows.{l_expr}

-- what stands in the brackets of a `for`

no_init_of : {a b : ℕ} {x : Bool} {ts : Toks} {st : Stack} {o q : Out} →
    Spells (s.Put note.NoInit ▹ s.Test ▹ s.Last ▹ s.Stmt true ▹ s.Put (note.For a) ▹ st) ts o q →
    Spells (s.Init a ▹ st) (tok b x k.Semi ∷ ts) o q
no_init_of
    (cons m.put_ (cons (m.test_ e) (cons (m.last_ f) (cons (m.stmt_ c) (cons m.put_ h))))) =
    cons (m.init_ g.no_init e f c) h

value_init_of : {a : ℕ} {ts : Toks} {st : Stack} {o q : Out} →
    Spells
    (s.Expr ▹ s.Put note.ValueInit ▹ s.Want s.Semi ▹ s.Test ▹ s.Last ▹ s.Stmt true
    ▹ s.Put (note.For a) ▹ st)
    ts o q →
    Spells (s.Init a ▹ st) ts o q
value_init_of {a} {ts} {o = o}
    (cons (m.expr_ d)
    (cons m.put_
    (cons m.want_
    (cons (m.test_ {e = e} i)
    (cons (m.last_ {e = f} j) (cons (m.stmt_ {d = c} l) (cons {r = r} m.put_ h))))))) =
    cons
    (subst
    (λ v.
    M (s.Init a) ts o r
    (note.For a ∷ note.stmt c (note.maybe f (note.maybe e (note.ValueInit ∷ v)))))
    (sym d.2)
    (m.init_ (g.value_init d.1) i j l))
    h

bind_of : {a b : ℕ} {x : Bool} {d : Binding} {ts : Toks} {st : Stack} {o q : Out} →
    Spells (s.ForName a d ▹ st) ts o q → Spells (s.Init a ▹ st) (tok b x (k.Bind d) ∷ ts) o q
bind_of (cons (m.for_name_ d e f c) h) = cons (m.init_ (g.declare_init d) e f c) h
bind_of (cons (m.for_name_in_ e c) h) = cons (m.init_in_ e c) h

pub l_init : (t : Kind) (a b : ℕ) (x : Bool) (ts : Toks) (st : Stack) (o q : Out) →
    Row (s.Init a) b x t ts st o q
l_init k.Semi a b x ts st o q = λ h. no_init_of h
l_init (k.Bind d) a b x ts st o q = λ h. bind_of h
l_init t a b x ts st o q =
    then_row (s.Init a) s.Expr b x t ts
    (s.Put note.ValueInit ∷ s.Want s.Semi ∷ table.for_rest a) st o q (table.expr t b)
    (l_expr t b x ts (s.Put note.ValueInit ▹ s.Want s.Semi ▹ onto (table.for_rest a) st) o q)
    value_init_of

for_name_of :
    {a b : ℕ} {n : List ℕ} {x : Bool} {d : Binding} {ts : Toks} {st : Stack} {o q : Out} →
    Spells (s.ForNext a d b n ▹ st) ts o q →
    Spells (s.ForName a d ▹ st) (tok b x (k.Name n) ∷ ts) o q
for_name_of {x = x} (cons (m.for_next_ d e f c) h) = cons (m.for_name_ (d x) e f c) h
for_name_of (cons (m.for_next_in_ e c) h) = cons (m.for_name_in_ e c) h

pub l_for_name : (t : Kind) (a : ℕ) (d : Binding) (b : ℕ) (x : Bool) (ts : Toks) (st : Stack)
    (o q : Out) → Row (s.ForName a d) b x t ts st o q
l_for_name (k.Name n) a d b x ts st o q = λ h. for_name_of h
l_for_name t a d b x ts st o q = tt

in_of :
    {a b c : ℕ} {n : List ℕ} {x : Bool} {d : Binding} {ts : Toks} {st : Stack} {o q : Out} →
    Spells
    (s.Put (note.Named_ (named b n)) ▹ s.Expr ▹ s.Want s.CloseRound ▹ s.Stmt true
    ▹ s.Put (note.ForIn a d) ▹ st)
    ts o q →
    Spells (s.ForNext a d b n ▹ st) (tok c x k.In ∷ ts) o q
in_of {a} {b} {c} {n} {x} {d} {ts} {o = o}
    (cons m.put_
    (cons (m.expr_ e) (cons m.want_ (cons (m.stmt_ {d = i} j) (cons {r = r} m.put_ h))))) =
    cons
    (subst
    (λ v. M (s.ForNext a d b n) (tok c x k.In ∷ ts) o r (note.ForIn a d ∷ note.stmt i v))
    (sym e.2)
    (m.for_next_in_ e.1 j))
    h

set_of :
    {a b c : ℕ} {n : List ℕ} {x : Bool} {d : Binding} {ts : Toks} {st : Stack} {o q : Out} →
    Spells
    (s.Put note.Decls ▹ s.Put (note.Named_ (named b n)) ▹ s.Expr ▹ s.Put note.Given ▹ s.Decls d
    ▹ s.Put (note.DeclareInit d) ▹ s.Want s.Semi ▹ s.Test ▹ s.Last ▹ s.Stmt true
    ▹ s.Put (note.For a) ▹ st)
    ts o q →
    Spells (s.ForNext a d b n ▹ st) (tok c x (k.Assign assign.Set) ∷ ts) o q
set_of {a} {b} {c} {n} {x} {d} {ts} {o = o}
    (cons m.put_
    (cons m.put_
    (cons (m.expr_ e)
    (cons m.put_
    (cons (m.no_decls_ z)
    (cons m.put_
    (cons m.want_
    (cons (m.test_ {e = f} i)
    (cons (m.last_ {e = u} j) (cons (m.stmt_ {d = w} l) (cons {r = r} m.put_ h))))))))))) =
    cons
    (subst
    (λ v.
    M (s.ForNext a d b n) (tok c x (k.Assign assign.Set) ∷ ts) o r
    (note.For a ∷ note.stmt w
    (note.maybe u (note.maybe f (note.DeclareInit d ∷ note.Given ∷ v)))))
    (sym e.2)
    (m.for_next_ (λ y. g.last_decl (g.given e.1) z) i j l))
    h
set_of {a} {b} {c} {n} {x} {d} {ts} {o = o}
    (cons m.put_
    (cons m.put_
    (cons (m.expr_ e)
    (cons m.put_
    (cons (m.decls_ {ds = ds} z)
    (cons m.put_
    (cons m.want_
    (cons (m.test_ {e = f} i)
    (cons (m.last_ {e = u} j) (cons (m.stmt_ {d = w} l) (cons {r = r} m.put_ h))))))))))) =
    cons
    (subst
    (λ v.
    M (s.ForNext a d b n) (tok c x (k.Assign assign.Set) ∷ ts) o r
    (note.For a ∷ note.stmt w
    (note.maybe u
    (note.maybe f (note.DeclareInit d ∷ note.decls ds (note.Given ∷ v))))))
    (sym e.2)
    (m.for_next_ (λ y. g.more_decls (g.given e.1) z) i j l))
    h

comma_of :
    {a b c : ℕ} {n : List ℕ} {x : Bool} {d : Binding} {ts : Toks} {st : Stack} {o q : Out} →
    needs_value d ≡ false →
    Spells
    (s.Put note.Decls ▹ s.Put (note.Named_ (named b n)) ▹ s.Put note.Bare ▹ s.Decl d
    ▹ s.Put (note.DeclareInit d) ▹ s.Want s.Semi ▹ s.Test ▹ s.Last ▹ s.Stmt true
    ▹ s.Put (note.For a) ▹ st)
    ts o q →
    Spells (s.ForNext a d b n ▹ st) (tok c x k.Comma ∷ ts) o q
comma_of v
    (cons m.put_
    (cons m.put_
    (cons m.put_
    (cons (m.decl_ z)
    (cons m.put_
    (cons m.want_
    (cons (m.test_ i) (cons (m.last_ j) (cons (m.stmt_ l) (cons m.put_ h)))))))))) =
    cons (m.for_next_ (λ y. g.more_decls (g.not_given v refl) z) i j l) h

semi_of :
    {a b c : ℕ} {n : List ℕ} {x : Bool} {d : Binding} {ts : Toks} {st : Stack} {o q : Out} →
    needs_value d ≡ false →
    Spells
    (s.Put note.Decls ▹ s.Put (note.Named_ (named b n)) ▹ s.Put note.Bare
    ▹ s.Put (note.DeclareInit d) ▹ s.Test ▹ s.Last ▹ s.Stmt true ▹ s.Put (note.For a) ▹ st)
    ts o q →
    Spells (s.ForNext a d b n ▹ st) (tok c x k.Semi ∷ ts) o q
semi_of {c = c} {x = x} v
    (cons m.put_
    (cons m.put_
    (cons m.put_
    (cons m.put_
    (cons (m.test_ i) (cons (m.last_ j) (cons (m.stmt_ l) (cons m.put_ h)))))))) =
    cons (m.for_next_ {a = c} {x = x} (λ y. g.last_decl (g.not_given v refl) refl) i j l) h

pub l_for_next : (t : Kind) (a : ℕ) (d : Binding) (c : ℕ) (n : List ℕ) (b : ℕ) (x : Bool)
    (ts : Toks) (st : Stack) (o q : Out) → Row (s.ForNext a d c n) b x t ts st o q
l_for_next k.In a d c n b x ts st o q = λ h. in_of h
l_for_next (k.Assign assign.Set) a d c n b x ts st o q = λ h. set_of h
l_for_next k.Comma a binding.Var c n b x ts st o q = λ h. comma_of refl h
l_for_next k.Comma a binding.Let c n b x ts st o q = λ h. comma_of refl h
l_for_next k.Comma a binding.Const c n b x ts st o q = tt
l_for_next k.Semi a binding.Var c n b x ts st o q = λ h. semi_of refl h
l_for_next k.Semi a binding.Let c n b x ts st o q = λ h. semi_of refl h
l_for_next k.Semi a binding.Const c n b x ts st o q = tt
l_for_next t a d c n b x ts st o q = tt

test_of : {ts : Toks} {st : Stack} {o q : Out} →
    Spells (s.Expr ▹ s.Put note.Present ▹ s.Want s.Semi ▹ st) ts o q →
    Spells (s.Test ▹ st) ts o q
test_of {ts} {o = o} (cons (m.expr_ d) (cons m.put_ (cons {r = r} m.want_ h))) =
    cons
    (subst (λ v. M s.Test ts o r (note.Present ∷ v)) (sym d.2) (m.test_ (g.test d.1)))
    h

pub l_test : (t : Kind) (b : ℕ) (x : Bool) (ts : Toks) (st : Stack) (o q : Out) →
    Row s.Test b x t ts st o q
l_test k.Semi b x ts st o q = λ h. cons (m.test_ g.no_test) (unput h)
l_test t b x ts st o q =
    then_row s.Test s.Expr b x t ts (s.Put note.Present ∷ s.Want s.Semi ∷ []) st o q
    (table.expr t b)
    (l_expr t b x ts (s.Put note.Present ▹ s.Want s.Semi ▹ st) o q) test_of

last_of : {ts : Toks} {st : Stack} {o q : Out} →
    Spells (s.Expr ▹ s.Put note.Present ▹ s.Want s.CloseRound ▹ st) ts o q →
    Spells (s.Last ▹ st) ts o q
last_of {ts} {o = o} (cons (m.expr_ d) (cons m.put_ (cons {r = r} m.want_ h))) =
    cons
    (subst (λ v. M s.Last ts o r (note.Present ∷ v)) (sym d.2) (m.last_ (g.last d.1)))
    h

pub l_last : (t : Kind) (b : ℕ) (x : Bool) (ts : Toks) (st : Stack) (o q : Out) →
    Row s.Last b x t ts st o q
l_last k.CloseRound b x ts st o q = λ h. cons (m.last_ g.no_last) (unput h)
l_last t b x ts st o q =
    then_row s.Last s.Expr b x t ts (s.Put note.Present ∷ s.Want s.CloseRound ∷ []) st o q
    (table.expr t b)
    (l_expr t b x ts (s.Put note.Present ▹ s.Want s.CloseRound ▹ st) o q) last_of
