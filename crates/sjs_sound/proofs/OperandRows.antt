-- Each row of the table that begins an operand or an expression says the truth.
use Rattle.std.proofs.Common.{◌≡◌, ℕ, zero, suc, List, [], ◌∷◌, Bool, true, false, refl}
use Rattle.std.proofs.Common.{Some, None, sym, ap, subst, pos}
use Rattle.sjs_syntax.specs.declared.signs.OneSign.TheVariants as one
use Rattle.sjs_syntax.specs.declared.signs.PairSign.{PairSign}
use Rattle.sjs_syntax.specs.declared.signs.PairSign.TheVariants as pair
use Rattle.sjs_syntax.specs.Tree as tree
use Rattle.sjs_syntax.specs.Tree.{ExprTree, MaybeExpr, ExprTrees, MemberTrees, BodyTree}
use Rattle.sjs_syntax.specs.Tree.{PlaceTree, DeclaratorTrees, InitTree, StmtTree, MaybeStmt}
use Rattle.sjs_syntax.specs.Tree.{StmtTrees}
use Rattle.sjs_grammar.specs.Grammar as g
use Rattle.sjs_grammar.specs.Grammar.{named, value_of, EndsAt, NamesAt, ParamsAt, StmtsAt, StmtAt}
use Rattle.sjs_grammar.specs.Grammar.{DeclsAt, GivenAt, InitAt, TestAt, LastAt, CodeAt, BodyAt}
use Rattle.sjs_grammar.specs.Grammar.{ExprAt, LevelAt, UnAt, PlaceAt, CallAt, ArgsAt, SomeArgsAt}
use Rattle.sjs_grammar.specs.Grammar.{ItemsAt, MembersAt, Reads}
use Rattle.sjs_grammar.specs.Kinds as k
use Rattle.sjs_grammar.specs.Kinds.{Kind, Lit, word_of, key_of, level, needs_value}
use Rattle.sjs_grammar.specs.Tokens.{tok, Toks, carries, goes_on}
use Rattle.sjs_table.specs.Notes as note
use Rattle.sjs_table.specs.Notes.{Note, Out}
use Rattle.sjs_table.specs.Runs.{Stack, ◌▹◌}
use Rattle.sjs_table.specs.Symbols as s
use Rattle.sjs_table.specs.Symbols.{Sym, Mode, Mark}
use Rattle.sjs_table.specs.Table as table
use Rattle.sjs_table.specs.Table.{Act, Take, Pass, Stop, act, at_most, then, first}
use Rattle.sjs_sound.proofs.Meanings as m
use Rattle.sjs_sound.proofs.Meanings.{M, Spells, cons, Got, Placed, Local, Row, NoPass, unput}
use Rattle.sjs_sound.proofs.Meanings.{then_row, like_row, first_row, twice_row}
use Rattle.std.proofs.Common.{◌⊎◌, inl, inr}

-- levels

split : (j n : ℕ) → at_most j (suc n) ≡ true → (j ≡ suc n) ⊎ (at_most j n ≡ true)
split zero n h = inr refl
split (suc zero) zero h = inl refl
split (suc (suc j)) zero h = cc
split (suc j) (suc n) h = elim (split j n h) [ inl e ↦ inl (ap suc e) | inr e ↦ inr e ]

none : (j : ℕ) → at_most j zero ≡ true → zero ≡ j
none zero h = refl
none (suc j) h = cc

pub lift : (j n : ℕ) → at_most j n ≡ true → {x r : Toks} {e : ExprTree} →
    LevelAt j x e r → LevelAt n x e r
lift j zero h {x} {r} {e} d = subst (λ i. LevelAt i x e r) (sym (none j h)) d
lift j (suc n) h {x} {r} {e} d =
    elim (split j n h)
    [ inl i ↦ subst (λ l. LevelAt l x e r) i d | inr i ↦ g.tighter (lift j n i d) ]

-- an operand at any level
pub at_level : (n : ℕ) {x r : Toks} {e : ExprTree} → UnAt x e r → LevelAt n x e r
at_level zero d = g.operand d
at_level (suc n) d = g.tighter (at_level n d)

pub six : (sign : PairSign) → at_most (suc (level sign)) 6 ≡ true
six pair.Mul = refl
six pair.Div = refl
six pair.Rem = refl
six pair.Add = refl
six pair.Sub = refl
six pair.Lt = refl
six pair.Gt = refl
six pair.Le = refl
six pair.Ge = refl
six pair.Eq = refl
six pair.Ne = refl
six pair.Same = refl
six pair.NotSame = refl
six pair.And = refl
six pair.Or = refl

-- an operand alone is an expression
pub whole : {x r : Toks} {e : ExprTree} → CallAt x e r → carries r ≡ false → goes_on r ≡ false →
    ExprAt x e r
whole d h i = g.plain (at_level 6 (g.alone d h)) i

-- what begins an operand without signs

p_number : {a n : ℕ} {x : Bool} {m : Mode} {ts : Toks} {st : Stack} {o q : Out} →
    Spells (s.Put (note.Number a (pos n)) ▹ s.After m false a ▹ st) ts o q →
    Spells (s.Prim m ▹ st) (tok a x (k.Number n) ∷ ts) o q
p_number {a} {n} {x} {ts = ts} {o = o} (cons m.put_ (cons (m.after_ f) h)) =
    cons (m.prim_ (f (tok a x (k.Number n) ∷ ts) (tree.number a (pos n)) o g.number tt refl refl)) h

p_text : {a : ℕ} {t : List ℕ} {x : Bool} {m : Mode} {ts : Toks} {st : Stack} {o q : Out} →
    Spells (s.Put (note.Text a t) ▹ s.After m false a ▹ st) ts o q →
    Spells (s.Prim m ▹ st) (tok a x (k.Text t) ∷ ts) o q
p_text {a} {t} {x} {ts = ts} {o = o} (cons m.put_ (cons (m.after_ f) h)) =
    cons (m.prim_ (f (tok a x (k.Text t) ∷ ts) (tree.text a t) o g.text tt refl refl)) h

value_note_is : (lit : Lit) (a : ℕ) (o : Out) →
    table.value_note a lit ∷ o ≡ note.expr (value_of a lit) o
value_note_is k.True a o = refl
value_note_is k.False a o = refl
value_note_is k.Null a o = refl
value_note_is k.Undefined a o = refl

p_value : {a : ℕ} {lit : Lit} {x : Bool} {m : Mode} {ts : Toks} {st : Stack} {o q : Out} →
    Spells (s.Put (table.value_note a lit) ▹ s.After m false a ▹ st) ts o q →
    Spells (s.Prim m ▹ st) (tok a x (k.Value lit) ∷ ts) o q
p_value {a} {lit} {x} {ts = ts} {o = o} (cons m.put_ (cons (m.after_ f) h)) =
    cons
    (m.prim_
    (f (tok a x (k.Value lit) ∷ ts) (value_of a lit) o g.word tt refl (value_note_is lit a o)))
    h

p_name : {a : ℕ} {n : List ℕ} {x : Bool} {m : Mode} {ts : Toks} {st : Stack} {o q : Out} →
    Spells (s.Put (note.Name a n) ▹ s.After m true a ▹ st) ts o q →
    Spells (s.Prim m ▹ st) (tok a x (k.Name n) ∷ ts) o q
p_name {a} {n} {x} {ts = ts} {o = o} (cons m.put_ (cons (m.after_ f) h)) =
    cons
    (m.prim_
    (f (tok a x (k.Name n) ∷ ts) (tree.name a n) o g.name
    (tree.name_place a n, g.name_place, refl)
    refl refl))
    h

p_round : {a : ℕ} {x : Bool} {m : Mode} {ts : Toks} {st : Stack} {o q : Out} →
    Spells (s.Expr ▹ s.Want s.CloseRound ▹ s.Put (note.Round a) ▹ s.After m false a ▹ st) ts o q →
    Spells (s.Prim m ▹ st) (tok a x k.OpenRound ∷ ts) o q
p_round {a} {x} {ts = ts} {o = o}
    (cons (m.expr_ d) (cons m.want_ (cons m.put_ (cons (m.after_ f) h)))) =
    cons
    (m.prim_
    (f (tok a x k.OpenRound ∷ ts) (tree.round a d.0) o (g.round d.1) tt refl
    (ap (λ v. note.Round a ∷ v) d.2)))
    h

p_list : {a : ℕ} {x : Bool} {m : Mode} {ts : Toks} {st : Stack} {o q : Out} →
    Spells (s.Put note.Exprs ▹ s.Items ▹ s.Put (note.List_ a) ▹ s.After m false a ▹ st) ts o q →
    Spells (s.Prim m ▹ st) (tok a x k.OpenSquare ∷ ts) o q
p_list {a} {x} {ts = ts} {o = o}
    (cons m.put_ (cons (m.items_ {es = es} d) (cons m.put_ (cons (m.after_ f) h)))) =
    cons
    (m.prim_ (f (tok a x k.OpenSquare ∷ ts) (tree.list a es) o (g.list d) tt refl refl))
    h

p_object : {a : ℕ} {x : Bool} {m : Mode} {ts : Toks} {st : Stack} {o q : Out} →
    Spells (s.Put note.Members ▹ s.Members ▹ s.Put (note.Object a) ▹ s.After m false a
    ▹ st) ts o q →
    Spells (s.Prim m ▹ st) (tok a x k.OpenBrace ∷ ts) o q
p_object {a} {x} {ts = ts} {o = o}
    (cons m.put_ (cons (m.members_ {ms = ms} d) (cons m.put_ (cons (m.after_ f) h)))) =
    cons
    (m.prim_ (f (tok a x k.OpenBrace ∷ ts) (tree.object a ms) o (g.object d) tt refl refl))
    h

p_function : {a : ℕ} {x : Bool} {m : Mode} {ts : Toks} {st : Stack} {o q : Out} →
    Spells (s.Function a ▹ s.After m false a ▹ st) ts o q →
    Spells (s.Prim m ▹ st) (tok a x k.Function ∷ ts) o q
p_function {a} {x} {ts = ts} {o = o}
    (cons (m.function_ {ns = ns} {ss = ss} d) (cons (m.after_ f) h)) =
    cons
    (m.prim_
    (f (tok a x k.Function ∷ ts) (tree.function a None ns ss) o (g.function d) tt refl refl))
    h
p_function {a} {x} {o = o}
    (cons
    (m.function_named_ {b = b} {x = y} {n = n} {ts = ts} {ns = ns} {ss = ss} d)
    (cons (m.after_ f) h)) =
    cons
    (m.prim_
    (f (tok a x k.Function ∷ tok b y (k.Name n) ∷ ts) (tree.function a (Some (named b n)) ns ss) o
    (g.function_named d) tt refl refl))
    h

pub l_prim : (t : Kind) (m : Mode) (b : ℕ) (x : Bool) (ts : Toks) (st : Stack) (o q : Out) →
    Row (s.Prim m) b x t ts st o q
l_prim (k.Number n) m b x ts st o q = λ h. p_number h
l_prim (k.Text t) m b x ts st o q = λ h. p_text h
l_prim (k.Value lit) m b x ts st o q = λ h. p_value h
l_prim (k.Name n) m b x ts st o q = λ h. p_name h
l_prim k.OpenRound m b x ts st o q = λ h. p_round h
l_prim k.OpenSquare m b x ts st o q = λ h. p_list h
l_prim k.OpenBrace m b x ts st o q = λ h. p_object h
l_prim k.Function m b x ts st o q = λ h. p_function h
l_prim t m b x ts st o q = tt

-- signs before an operand

o_prim : {ts : Toks} {st : Stack} {o q : Out} →
    Spells (s.Prim s.Then ▹ st) ts o q → Spells (s.Operand ▹ st) ts o q
o_prim (cons (m.prim_ d) h) = cons (m.operand_ d) h

o_not : {a : ℕ} {x : Bool} {ts : Toks} {st : Stack} {o q : Out} →
    Spells (s.Operand ▹ s.Put (note.One a one.Not) ▹ st) ts o q →
    Spells (s.Operand ▹ st) (tok a x k.Bang ∷ ts) o q
o_not {a} (cons (m.operand_ d) (cons m.put_ h)) =
    cons
    (m.operand_ (tree.one a one.Not d.0, g.not d.1, ap (λ v. note.One a one.Not ∷ v) d.2))
    h

o_minus : {a : ℕ} {x : Bool} {ts : Toks} {st : Stack} {o q : Out} →
    Spells (s.Operand ▹ s.Put (note.One a one.Minus) ▹ st) ts o q →
    Spells (s.Operand ▹ st) (tok a x (k.Infix pair.Sub) ∷ ts) o q
o_minus {a} (cons (m.operand_ d) (cons m.put_ h)) =
    cons
    (m.operand_ (tree.one a one.Minus d.0, g.minus d.1, ap (λ v. note.One a one.Minus ∷ v) d.2))
    h

o_plus : {a : ℕ} {x : Bool} {ts : Toks} {st : Stack} {o q : Out} →
    Spells (s.Operand ▹ s.Put (note.One a one.Plus) ▹ st) ts o q →
    Spells (s.Operand ▹ st) (tok a x (k.Infix pair.Add) ∷ ts) o q
o_plus {a} (cons (m.operand_ d) (cons m.put_ h)) =
    cons
    (m.operand_ (tree.one a one.Plus d.0, g.plus d.1, ap (λ v. note.One a one.Plus ∷ v) d.2))
    h

o_typeof : {a : ℕ} {x : Bool} {ts : Toks} {st : Stack} {o q : Out} →
    Spells (s.Operand ▹ s.Put (note.One a one.TypeOf) ▹ st) ts o q →
    Spells (s.Operand ▹ st) (tok a x k.TypeOf ∷ ts) o q
o_typeof {a} (cons (m.operand_ d) (cons m.put_ h)) =
    cons
    (m.operand_ (tree.one a one.TypeOf d.0, g.typeof d.1, ap (λ v. note.One a one.TypeOf ∷ v) d.2))
    h

o_step : {a : ℕ} {x up : Bool} {ts : Toks} {st : Stack} {o q : Out} →
    Spells (s.Prim s.Before ▹ s.Put (note.Step a up true) ▹ st) ts o q →
    Spells (s.Operand ▹ st) (tok a x (k.Step up) ∷ ts) o q
o_step {a} {up = up} (cons (m.prim_ d) (cons m.put_ h)) =
    cons
    (m.operand_
    (tree.step a up true d.0, g.step_before d.1 d.2, ap (λ v. note.Step a up true ∷ v) d.3))
    h

pub l_operand : (t : Kind) (b : ℕ) (x : Bool) (ts : Toks) (st : Stack) (o q : Out) →
    Row s.Operand b x t ts st o q
l_operand k.Bang b x ts st o q = λ h. o_not h
l_operand (k.Infix pair.Sub) b x ts st o q = λ h. o_minus h
l_operand (k.Infix pair.Add) b x ts st o q = λ h. o_plus h
l_operand k.TypeOf b x ts st o q = λ h. o_typeof h
l_operand (k.Step up) b x ts st o q = λ h. o_step h
l_operand t b x ts st o q =
    like_row s.Operand (s.Prim s.Then) b x t ts st o q (table.prim t b s.Then) tt
    (l_prim t s.Then b x ts st o q) o_prim

level_of : {n b : ℕ} {x : Bool} {t : Kind} {ts : Toks} {st : Stack} {o q : Out} →
    Spells (s.Operand ▹ s.Tail n 0 b ▹ st) (tok b x t ∷ ts) o q →
    Spells (s.Level n ▹ st) (tok b x t ∷ ts) o q
level_of {n} {b} {x} {t} {ts} {o = o} (cons (m.operand_ d) (cons {r = r} {p = p} (m.tail_ f) h)) =
    let u = f (tok b x t ∷ ts) d.0 o refl (g.operand d.1) refl d.2 in
    cons (subst (λ z. M (s.Level n) (tok b x t ∷ ts) o r z) (sym u.2) (m.level_ u.1)) h

pub l_level : (n : ℕ) (t : Kind) (b : ℕ) (x : Bool) (ts : Toks) (st : Stack) (o q : Out) →
    Row (s.Level n) b x t ts st o q
l_level n t b x ts st o q =
    then_row (s.Level n) s.Operand b x t ts (s.Tail n 0 b ∷ []) st o q (table.operand t b)
    (l_operand t b x ts (s.Tail n 0 b ▹ st) o q) level_of

-- what begins an expression

e_prim : {ts : Toks} {st : Stack} {o q : Out} →
    Spells (s.Prim s.First ▹ st) ts o q → Spells (s.Expr ▹ st) ts o q
e_prim (cons (m.prim_ d) h) = cons (m.expr_ d) h

e_name : {a : ℕ} {n : List ℕ} {x : Bool} {ts : Toks} {st : Stack} {o q : Out} →
    Spells (s.AfterName a n ▹ st) ts o q → Spells (s.Expr ▹ st) (tok a x (k.Name n) ∷ ts) o q
e_name {x = x} (cons (m.after_name_ f) h) = cons (m.expr_ (f x)) h

e_open : {a : ℕ} {x : Bool} {ts : Toks} {st : Stack} {o q : Out} →
    Spells (s.Open a ▹ st) ts o q → Spells (s.Expr ▹ st) (tok a x k.OpenRound ∷ ts) o q
e_open {x = x} (cons (m.open_ f) h) = cons (m.expr_ (f x)) h

e_signs : {b : ℕ} {x : Bool} {t : Kind} {ts : Toks} {st : Stack} {o q : Out} →
    Spells (s.Operand ▹ s.Tail 6 0 b ▹ s.Choose b ▹ st) (tok b x t ∷ ts) o q →
    Spells (s.Expr ▹ st) (tok b x t ∷ ts) o q
e_signs {b} {x} {t} {ts} {o = o} (cons (m.operand_ d) (cons (m.tail_ f) (cons (m.choose_ c) h))) =
    let u = f (tok b x t ∷ ts) d.0 o refl (g.operand d.1) refl d.2 in
    cons (m.expr_ (c (tok b x t ∷ ts) u.0 o u.1 refl u.2)) h

e_like : (t : Kind) (b : ℕ) (x : Bool) (ts : Toks) (st : Stack) (o q : Out) →
    NoPass (table.prim t b s.First) →
    Local s.Expr b x t ts st o q (table.prim t b s.First)
e_like t b x ts st o q n =
    like_row s.Expr (s.Prim s.First) b x t ts st o q (table.prim t b s.First) n
    (l_prim t s.First b x ts st o q) e_prim

pub l_expr : (t : Kind) (b : ℕ) (x : Bool) (ts : Toks) (st : Stack) (o q : Out) →
    Row s.Expr b x t ts st o q
l_expr (k.Name n) b x ts st o q = λ h. e_name h
l_expr k.OpenRound b x ts st o q = λ h. e_open h
l_expr (k.Number n) b x ts st o q = e_like (k.Number n) b x ts st o q tt
l_expr (k.Text t) b x ts st o q = e_like (k.Text t) b x ts st o q tt
l_expr (k.Value lit) b x ts st o q = e_like (k.Value lit) b x ts st o q tt
l_expr k.OpenSquare b x ts st o q = e_like k.OpenSquare b x ts st o q tt
l_expr k.OpenBrace b x ts st o q = e_like k.OpenBrace b x ts st o q tt
l_expr k.Function b x ts st o q = e_like k.Function b x ts st o q tt
l_expr t b x ts st o q =
    then_row s.Expr s.Operand b x t ts (s.Tail 6 0 b ∷ s.Choose b ∷ []) st o q (table.operand t b)
    (l_operand t b x ts (s.Tail 6 0 b ▹ s.Choose b ▹ st) o q) e_signs
