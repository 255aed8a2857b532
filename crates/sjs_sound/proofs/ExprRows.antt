-- Each row of the table that goes on with an operand says the truth.
use Rattle.std.proofs.Common.{◌≡◌, ℕ, suc, ◌∷◌, Bool, true, false, refl}
use Rattle.std.proofs.Common.{sym, ◌∙◌, ap}
use Rattle.sjs_syntax.specs.declared.signs.AssignSign.{AssignSign}
use Rattle.sjs_syntax.specs.declared.signs.PairSign.{PairSign}
use Rattle.sjs_syntax.specs.Tree as tree
use Rattle.sjs_syntax.specs.Tree.{ExprTree, MaybeExpr, ExprTrees, MemberTrees, BodyTree}
use Rattle.sjs_syntax.specs.Tree.{PlaceTree, DeclaratorTrees, InitTree, StmtTree, MaybeStmt}
use Rattle.sjs_syntax.specs.Tree.{StmtTrees}
use Rattle.sjs_grammar.specs.Grammar as g
use Rattle.sjs_grammar.specs.Grammar.{named, value_of, EndsAt, NamesAt, ParamsAt, StmtsAt, StmtAt}
use Rattle.sjs_grammar.specs.Grammar.{DeclsAt, GivenAt, InitAt, TestAt, LastAt, CodeAt, BodyAt}
use Rattle.sjs_grammar.specs.Grammar.{ExprAt, LevelAt, UnAt, PlaceAt, CallAt, ArgsAt, SomeArgsAt}
use Rattle.sjs_grammar.specs.Grammar.{ItemsAt, MembersAt, Reads}
use Rattle.sjs_grammar.specs.Kinds as k
use Rattle.sjs_grammar.specs.Kinds.{Kind, Lit, word_of, key_of, level, needs_value}
use Rattle.sjs_grammar.specs.Tokens.{tok, Toks, begins, carries, goes_on}
use Rattle.sjs_table.specs.Notes as note
use Rattle.sjs_table.specs.Notes.{Note, Out}
use Rattle.sjs_table.specs.Runs.{Stack, ◌▹◌}
use Rattle.sjs_table.specs.Symbols as s
use Rattle.sjs_table.specs.Symbols.{Sym, Mode, Mark}
use Rattle.sjs_table.specs.Table as table
use Rattle.sjs_table.specs.Table.{Act, Take, Pass, Stop, act, at_most, then, first}
use Rattle.sjs_sound.proofs.Meanings as m
use Rattle.sjs_sound.proofs.Meanings.{M, Spells, cons, Got, Placed, Local, Row, NoPass, unput}
use Rattle.sjs_sound.proofs.Meanings.{then_row, like_row, first_row, twice_row}
use Rattle.sjs_sound.proofs.OperandRows.{lift, at_level, six, whole}

-- what carries an operand on

f_dot : {m : Mode} {p x : Bool} {at b : ℕ} {ts : Toks} {st : Stack} {o q : Out} →
    Spells (s.Word at ▹ s.After m true at ▹ st) ts o q →
    Spells (s.After m p at ▹ st) (tok b x k.Dot ∷ ts) o q
f_dot {at = at} {o = o} (cons (m.word_ {w = w} e) (cons (m.after_ f) h)) =
    cons
    (m.after_
    (λ y d z c i b v.
    let move : note.Member at w ∷ o ≡ note.Member (begins y) w ∷ note.expr d z =
    ap (λ j. note.Member j w ∷ o) (sym b) ∙ ap (λ u. note.Member (begins y) w ∷ u) v in
    f y (tree.member (begins y) d w) z (g.member c e)
    (tree.member_place (begins y) d w, g.member_place c e, move)
    b move))
    h

f_index : {m : Mode} {p x : Bool} {at b : ℕ} {ts : Toks} {st : Stack} {o q : Out} →
    Spells (s.Expr ▹ s.Want s.CloseSquare ▹ s.Put (note.Index at) ▹ s.After m true at ▹ st) ts o q →
    Spells (s.After m p at ▹ st) (tok b x k.OpenSquare ∷ ts) o q
f_index {at = at} {o = o}
    (cons {p = n} (m.expr_ e) (cons m.want_ (cons m.put_ (cons (m.after_ f) h)))) =
    cons
    (m.after_
    (λ y d z c i b v.
    let move : note.Index at ∷ n ≡ note.Index (begins y) ∷ note.expr e.0 (note.expr d z) =
    ap (λ j. note.Index j ∷ n) (sym b)
    ∙ ap (λ u. note.Index (begins y) ∷ u) (e.2 ∙ ap (note.expr e.0) v) in
    f y (tree.index (begins y) d e.0) z (g.index c e.1)
    (tree.index_place (begins y) d e.0, g.index_place c e.1, move)
    b move))
    h

f_call : {m : Mode} {p x : Bool} {at b : ℕ} {ts : Toks} {st : Stack} {o q : Out} →
    Spells (s.Put note.Exprs ▹ s.Args ▹ s.Put (note.Call at) ▹ s.After m false at ▹ st) ts o q →
    Spells (s.After m p at ▹ st) (tok b x k.OpenRound ∷ ts) o q
f_call {at = at} {o = o}
    (cons m.put_ (cons (m.args_ {es = es} e) (cons m.put_ (cons (m.after_ f) h)))) =
    cons
    (m.after_
    (λ y d z c i b v.
    f y (tree.call (begins y) d es) z (g.call c e) tt b
    (ap (λ j. note.Call j ∷ note.exprs es (note.Exprs ∷ o)) (sym b)
    ∙ ap (λ u. note.Call (begins y) ∷ note.exprs es (note.Exprs ∷ u)) v)))
    h

f_step : {up : Bool} {at b : ℕ} {ts : Toks} {st : Stack} {o q : Out} →
    Spells (s.Put (note.Step at up false) ▹ s.Tail 6 0 at ▹ s.Choose at ▹ st) ts o q →
    Spells (s.After s.First true at ▹ st) (tok b false (k.Step up) ∷ ts) o q
f_step {up} {at} {o = o} (cons m.put_ (cons (m.tail_ f) (cons (m.choose_ c) h))) =
    cons
    (m.after_
    (λ y d z w i b v.
    let u =
    f y (tree.step (begins y) up false i.0) z refl (g.operand (g.step_behind i.1)) b
    (ap (λ j. note.Step j up false ∷ o) (sym b)
    ∙ ap (λ u. note.Step (begins y) up false ∷ u) i.2) in
    c y u.0 z u.1 b u.2))
    h

t_step : {up : Bool} {at b : ℕ} {ts : Toks} {st : Stack} {o q : Out} →
    Spells (s.Put (note.Step at up false) ▹ st) ts o q →
    Spells (s.After s.Then true at ▹ st) (tok b false (k.Step up) ∷ ts) o q
t_step {up} {at} {o = o} (cons m.put_ h) =
    cons
    (m.after_
    (λ y d z w i b v. (
      tree.step (begins y) up false i.0,
      g.step_behind i.1,
      ap (λ j. note.Step j up false ∷ o) (sym b)
          ∙ ap (λ u. note.Step (begins y) up false ∷ u) i.2,
    )))
    h

f_sign : {p x : Bool} {sign : PairSign} {at b : ℕ} {ts : Toks} {st : Stack} {o q : Out} →
    Spells
    (s.Level (level sign) ▹ s.Put (note.Pair at sign) ▹ s.Tail 6 (suc (level sign)) at
    ▹ s.Choose at ▹ st)
    ts o q →
    Spells (s.After s.First p at ▹ st) (tok b x (k.Infix sign) ∷ ts) o q
f_sign {sign = sign} {at = at} {o = o}
    (cons (m.level_ {e = e} l) (cons m.put_ (cons (m.tail_ f) (cons (m.choose_ c) h)))) =
    cons
    (m.after_
    (λ y d z w i b v.
    let u =
    f y (tree.pair (begins y) sign d e) z (six sign)
    (g.pairs refl (at_level (suc (level sign)) (g.alone w refl)) l) b
    (ap (λ j. note.Pair j sign ∷ note.expr e o) (sym b)
    ∙ ap (λ u. note.Pair (begins y) sign ∷ note.expr e u) v) in
    c y u.0 z u.1 b u.2))
    h

f_quest : {p x : Bool} {at b : ℕ} {ts : Toks} {st : Stack} {o q : Out} →
    Spells (s.Expr ▹ s.Want s.Colon ▹ s.Expr ▹ s.Put (note.Choose at) ▹ st) ts o q →
    Spells (s.After s.First p at ▹ st) (tok b x k.Quest ∷ ts) o q
f_quest {at = at} {o = o}
    (cons (m.expr_ e) (cons m.want_ (cons {p = n} (m.expr_ f) (cons m.put_ h)))) =
    cons
    (m.after_
    (λ y d z w i b v. (
      tree.choose (begins y) d e.0 f.0,
      g.choose (at_level 6 (g.alone w refl)) e.1 f.1,
      ap (λ j. note.Choose j ∷ n) (sym b)
          ∙ ap (λ u. note.Choose (begins y) ∷ u)
          (f.2 ∙ ap (note.expr f.0) (e.2 ∙ ap (note.expr e.0) v)),
    )))
    h

f_assign : {x : Bool} {sign : AssignSign} {at b : ℕ} {ts : Toks} {st : Stack} {o q : Out} →
    Spells (s.Expr ▹ s.Put (note.Assign at sign) ▹ st) ts o q →
    Spells (s.After s.First true at ▹ st) (tok b x (k.Assign sign) ∷ ts) o q
f_assign {sign = sign} {at = at} {o = o} (cons {p = n} (m.expr_ e) (cons m.put_ h)) =
    cons
    (m.after_
    (λ y d z w i b v. (
      tree.assign (begins y) sign i.0 e.0,
      g.assigned i.1 e.1,
      ap (λ j. note.Assign j sign ∷ n) (sym b)
          ∙ ap (λ u. note.Assign (begins y) sign ∷ u) (e.2 ∙ ap (note.expr e.0) i.2),
    )))
    h

-- an operand that begins an expression ends it here
abbrev Closes : Mode → Toks → Type 0
Closes s.First ts = goes_on ts ≡ false
Closes s.Then ts = Unit {0}
Closes s.Before ts = Unit {0}

l_skip : (m : Mode) (p : Bool) (at b : ℕ) (x : Bool) (t : Kind) (ts : Toks) (st : Stack) (o q :
    Out) →
    carries (tok b x t ∷ ts) ≡ false → Closes m (tok b x t ∷ ts) →
    Local (s.After m p at) b x t ts st o q (table.skip m p)
l_skip s.First p at b x t ts st o q h c = m.after_ (λ y d z w i e v. (d, whole w h c, v))
l_skip s.Then p at b x t ts st o q h c = m.after_ (λ y d z w i e v. (d, g.alone w h, v))
l_skip s.Before true at b x t ts st o q h c =
    m.after_ (λ y d z w i e v. (i.0, i.1, h, i.2))
l_skip s.Before false at b x t ts st o q h c = tt

l_step : (m : Mode) (p x up : Bool) (at b : ℕ) (ts : Toks) (st : Stack) (o q : Out) →
    Local (s.After m p at) b x (k.Step up) ts st o q (table.step x m p up at)
l_step s.First p true up at b ts st o q =
    l_skip s.First p at b true (k.Step up) ts st o q refl refl
l_step s.Then p true up at b ts st o q = l_skip s.Then p at b true (k.Step up) ts st o q refl tt
l_step s.Before p true up at b ts st o q =
    l_skip s.Before p at b true (k.Step up) ts st o q refl tt
l_step s.First true false up at b ts st o q = λ h. f_step h
l_step s.Then true false up at b ts st o q = λ h. t_step h
l_step s.First false false up at b ts st o q = tt
l_step s.Then false false up at b ts st o q = tt
l_step s.Before p false up at b ts st o q = tt

pub l_after : (t : Kind) (m : Mode) (p : Bool) (at b : ℕ) (x : Bool) (ts : Toks) (st : Stack)
    (o q : Out) → Row (s.After m p at) b x t ts st o q
l_after k.Dot m p at b x ts st o q = λ h. f_dot h
l_after k.OpenRound m p at b x ts st o q = λ h. f_call h
l_after k.OpenSquare m p at b x ts st o q = λ h. f_index h
l_after (k.Step up) m p at b x ts st o q = l_step m p x up at b ts st o q
l_after (k.Infix sign) s.First p at b x ts st o q = λ h. f_sign h
l_after k.Quest s.First p at b x ts st o q = λ h. f_quest h
l_after (k.Assign sign) s.First true at b x ts st o q = λ h. f_assign h
l_after (k.Assign sign) s.First false at b x ts st o q = tt
l_after k.Arrow s.First p at b x ts st o q = tt
l_after t s.First p at b x ts st o q = l_skip s.First p at b x t ts st o q refl refl
l_after t s.Then p at b x ts st o q = l_skip s.Then p at b x t ts st o q refl tt
l_after t s.Before p at b x ts st o q = l_skip s.Before p at b x t ts st o q refl tt

-- signs between operands

t_sign : {n j at b : ℕ} {x : Bool} {sign : PairSign} {ts : Toks} {st : Stack} {o q : Out} →
    at_most (suc (level sign)) n ≡ true → at_most j (suc (level sign)) ≡ true →
    Spells
    (s.Level (level sign) ▹ s.Put (note.Pair at sign) ▹ s.Tail n (suc (level sign)) at
    ▹ st) ts o q →
    Spells (s.Tail n j at ▹ st) (tok b x (k.Infix sign) ∷ ts) o q
t_sign {j = j} {at = at} {sign = sign} {o = o} under over
    (cons (m.level_ {e = e} l) (cons m.put_ (cons (m.tail_ f) h))) =
    cons
    (m.tail_
    (λ y d z i w b v.
    f y (tree.pair (begins y) sign d e) z under
    (g.pairs refl (lift j (suc (level sign)) over w) l) b
    (ap (λ i. note.Pair i sign ∷ note.expr e o) (sym b)
    ∙ ap (λ u. note.Pair (begins y) sign ∷ note.expr e u) v)))
    h

l_sign : (under over : Bool) (sign : PairSign) (n j at b : ℕ) (x : Bool) (ts : Toks) (st : Stack)
    (o q : Out) →
    at_most (suc (level sign)) n ≡ under → at_most j (suc (level sign)) ≡ over →
    Local (s.Tail n j at) b x (k.Infix sign) ts st o q (table.sign_in under over sign n at)
l_sign true true sign n j at b x ts st o q u v = λ h. t_sign u v h
l_sign true false sign n j at b x ts st o q u v = tt
l_sign false over sign n j at b x ts st o q u v =
    m.tail_ (λ y d z i w e c. (d, lift j n i w, c))

pub l_tail : (t : Kind) (n j at b : ℕ) (x : Bool) (ts : Toks) (st : Stack) (o q : Out) →
    Row (s.Tail n j at) b x t ts st o q
l_tail (k.Infix sign) n j at b x ts st o q =
    l_sign (at_most (suc (level sign)) n) (at_most j (suc (level sign))) sign n j at b x ts st o q
    refl refl
l_tail t n j at b x ts st o q = m.tail_ (λ y d z i w e c. (d, lift j n i w, c))

c_quest : {at b : ℕ} {x : Bool} {ts : Toks} {st : Stack} {o q : Out} →
    Spells (s.Expr ▹ s.Want s.Colon ▹ s.Expr ▹ s.Put (note.Choose at) ▹ st) ts o q →
    Spells (s.Choose at ▹ st) (tok b x k.Quest ∷ ts) o q
c_quest {at = at} {o = o}
    (cons (m.expr_ e) (cons m.want_ (cons {p = n} (m.expr_ f) (cons m.put_ h)))) =
    cons
    (m.choose_
    (λ y d z w b v. (
      tree.choose (begins y) d e.0 f.0,
      g.choose w e.1 f.1,
      ap (λ j. note.Choose j ∷ n) (sym b)
          ∙ ap (λ u. note.Choose (begins y) ∷ u)
          (f.2 ∙ ap (note.expr f.0) (e.2 ∙ ap (note.expr e.0) v)),
    )))
    h

pub l_choose : (t : Kind) (at b : ℕ) (x : Bool) (ts : Toks) (st : Stack) (o q : Out) →
    Row (s.Choose at) b x t ts st o q
l_choose k.Quest at b x ts st o q = λ h. c_quest h
l_choose (k.Infix sign) at b x ts st o q = tt
l_choose (k.Assign sign) at b x ts st o q = tt
l_choose k.Arrow at b x ts st o q = tt
l_choose t at b x ts st o q = m.choose_ (λ y d z w e v. (d, g.plain w refl, v))
