-- What the machine leaves to the next symbol, and what it takes.
use Rattle.std.proofs.Common.{◌≡◌, ℕ, zero, suc, List, [], ◌∷◌, Bool, true, false, refl}
use Rattle.std.proofs.Common.{Some, sym, ◌∙◌, ap, subst}
use Rattle.sjs_syntax.specs.declared.signs.AssignSign.TheVariants as assign
use Rattle.sjs_syntax.specs.declared.signs.PairSign.{PairSign}
use Rattle.sjs_syntax.specs.declared.signs.PairSign.TheVariants as pair
use Rattle.sjs_syntax.specs.declared.statements.Binding.{Binding}
use Rattle.sjs_syntax.specs.Tree as tree
use Rattle.sjs_syntax.specs.Tree.{ExprTree, MaybeExpr, ExprTrees, MemberTrees, BodyTree}
use Rattle.sjs_syntax.specs.Tree.{PlaceTree, DeclaratorTrees, InitTree, StmtTree, MaybeStmt}
use Rattle.sjs_syntax.specs.Tree.{StmtTrees}
use Rattle.sjs_grammar.specs.Grammar as g
use Rattle.sjs_grammar.specs.Grammar.{named, value_of, EndsAt, NamesAt, ParamsAt, StmtsAt, StmtAt}
use Rattle.sjs_grammar.specs.Grammar.{DeclsAt, GivenAt, InitAt, TestAt, LastAt, CodeAt, BodyAt}
use Rattle.sjs_grammar.specs.Grammar.{ExprAt, LevelAt, UnAt, PlaceAt, CallAt, ArgsAt, SomeArgsAt}
use Rattle.sjs_grammar.specs.Grammar.{ItemsAt, MembersAt, Reads}
use Rattle.sjs_grammar.specs.Kinds as k
use Rattle.sjs_grammar.specs.Kinds.{Kind, Lit, word_of, key_of, level, needs_value}
use Rattle.sjs_grammar.specs.Tokens.{tok, Toks, carries, goes_on, semi_next}
use Rattle.sjs_grammar.specs.Tokens.{comma_next, set_next, else_next}
use Rattle.sjs_table.specs.Notes as note
use Rattle.sjs_table.specs.Notes.{Note, Out}
use Rattle.sjs_table.specs.Runs.{Stack, ◌▹◌, run, steps, go_on}
use Rattle.sjs_table.specs.Symbols as s
use Rattle.sjs_table.specs.Symbols.{Sym, Mode, Mark}
use Rattle.sjs_table.specs.Table.{Take, Pass, at_most, sign_in, tail, stop_if}
use Rattle.sjs_table.specs.Table.{keyed, word}

-- a note is put out at once
pub put : (ts : Toks) (n : Note) (st : Stack) (o : Out) →
    run ts (s.Put n ▹ st) o ≡ run ts st (n ∷ o)
put [] n st o = refl
put (tok a x t ∷ ts) n st o = refl

-- an assignment or `=>` is the next token
abbrev pub assigns : Toks → Bool
assigns [] = true
assigns (tok a x (k.Assign sign) ∷ ts) = true
assigns (tok a x k.Arrow ∷ ts) = true
assigns (t ∷ ts) = false

abbrev pub arrow_next : Toks → Bool
arrow_next [] = false
arrow_next (tok a x k.Arrow ∷ ts) = true
arrow_next (t ∷ ts) = false

-- the next token is a sign that operands of this level have within them
abbrev pub under : ℕ → Toks → Bool
under n [] = false
under n (tok a x (k.Infix sign) ∷ ts) = at_most (suc (suc (level sign))) n
under n (t ∷ ts) = false

abbrev pub is_place : ExprTree → Bool
is_place (tree.name a n) = true
is_place (tree.member a e key) = true
is_place (tree.index a e f) = true
is_place e = false

-- numbers

pub falls : (m n : ℕ) → at_most m (suc n) ≡ false → at_most m n ≡ false
falls zero n h = cc
falls (suc m) zero h = refl
falls (suc m) (suc n) h = falls m n h

pub rises : (m n : ℕ) → at_most m n ≡ true → at_most m (suc n) ≡ true
rises zero n h = refl
rises (suc m) zero h = cc
rises (suc m) (suc n) h = rises m n h

pub lowers : (m n : ℕ) → at_most (suc m) n ≡ true → at_most m n ≡ true
lowers zero n h = refl
lowers (suc m) zero h = cc
lowers (suc m) (suc n) h = lowers m n h

pub turns : (m n : ℕ) → at_most (suc m) n ≡ false → at_most n m ≡ true
turns m zero h = refl
turns zero (suc n) h = cc
turns (suc m) (suc n) h = turns m n h

pub itself : (n : ℕ) → at_most n n ≡ true
itself zero = refl
itself (suc n) = itself n

pub not_over : (n : ℕ) → at_most (suc n) n ≡ false
not_over zero = refl
not_over (suc n) = not_over n

-- all signs stand at level 6
pub six : (sign : PairSign) → at_most (suc (level sign)) 6 ≡ true
six pair.Mul = refl
six pair.Div = refl
six pair.Rem = refl
six pair.Add = refl
six pair.Sub = refl
six pair.Lt = refl
six pair.Gt = refl
six pair.Le = refl
six pair.Ge = refl
six pair.Eq = refl
six pair.Ne = refl
six pair.Same = refl
six pair.NotSame = refl
six pair.And = refl
six pair.Or = refl

-- what the next token is not

pub no_arrow : (ts : Toks) → assigns ts ≡ false → arrow_next ts ≡ false
no_arrow [] h = refl
no_arrow (tok a x k.Arrow ∷ ts) h = cc
no_arrow (tok a x t ∷ ts) h = refl

pub no_assign : (ts : Toks) → goes_on ts ≡ false → assigns ts ≡ false
no_assign [] h = cc
no_assign (tok a x (k.Assign sign) ∷ ts) h = cc
no_assign (tok a x k.Arrow ∷ ts) h = cc
no_assign (tok a x t ∷ ts) h = refl

pub no_under : (n : ℕ) (ts : Toks) → goes_on ts ≡ false → under n ts ≡ false
no_under n [] h = cc
no_under n (tok a x (k.Infix sign) ∷ ts) h = cc
no_under n (tok a x t ∷ ts) h = refl

pub under_falls : (n : ℕ) (ts : Toks) → under (suc n) ts ≡ false → under n ts ≡ false
under_falls n [] h = refl
under_falls n (tok a x (k.Infix sign) ∷ ts) h = falls (suc (suc (level sign))) n h
under_falls n (tok a x t ∷ ts) h = refl

-- signs between operands

-- one more level is read where no sign of it comes
pub tail_rises : (n m at : ℕ) (ts : Toks) (st : Stack) (o : Out) → under (suc m) ts ≡ false →
    run ts (s.Tail n m at ▹ st) o ≡ run ts (s.Tail n (suc m) at ▹ st) o
tail_rises n m at [] st o h = refl
tail_rises n m at (tok a x (k.Infix sign) ∷ ts) st o h =
    let low : at_most m (level sign) ≡ true = turns (level sign) m h in
    let up : at_most m (suc (level sign)) ≡ true = rises m (level sign) low in
    ap
    (λ c.
    go_on (run ts) st (steps (run ts) (tok a x (k.Infix sign) ∷ ts) a x (k.Infix sign) st) o
    (sign_in (at_most (suc (level sign)) n) c sign n at))
    (up ∙ sym low)
tail_rises n m at (tok a x t ∷ ts) st o h = refl

-- a looser sign, or none, is left to the next symbol
pub tail_skips : (n at : ℕ) (ts : Toks) (e : Note) (i j b : ℕ) (st : Stack) (o : Out) →
    under (suc n) ts ≡ false →
    run ts (s.Tail n n at ▹ s.Put e ▹ s.Tail i j b ▹ st) o
    ≡ run ts (s.Put e ▹ s.Tail i j b ▹ st) o
tail_skips n at [] e i j b st o h = refl
tail_skips n at (tok a x (k.Infix sign) ∷ ts) e i j b st o h =
    ap
    (λ c.
    go_on (run ts) (s.Put e ▹ s.Tail i j b ▹ st)
    (steps (run ts) (tok a x (k.Infix sign) ∷ ts) a x (k.Infix sign)
    (s.Put e ▹ s.Tail i j b ▹ st))
    o
    (sign_in c (at_most n (suc (level sign))) sign n at))
    h
tail_skips n at (tok a x t ∷ ts) e i j b st o h = refl

-- a sign of the level that is read so far is taken
taken : (n at : ℕ) (sign : PairSign) → at_most (suc (level sign)) n ≡ true →
    tail (k.Infix sign) n (suc (level sign)) at
    ≡ Take (s.Level (level sign) ∷ s.Put (note.Pair at sign) ∷ s.Tail n (suc (level sign)) at ∷ [])
taken n at sign h =
    ap (λ c. sign_in c (at_most (level sign) (level sign)) sign n at) h
    ∙ ap (λ c. sign_in true c sign n at) (itself (level sign))

pub sign_taken : (n m at : ℕ) (sign : PairSign) → level sign ≡ m → at_most (suc m) n ≡ true →
    (a : ℕ) (x : Bool) (ts : Toks) (st : Stack) (o : Out) →
    run (tok a x (k.Infix sign) ∷ ts) (s.Tail n (suc m) at ▹ st) o
    ≡ run ts (s.Level m ▹ s.Put (note.Pair at sign) ▹ s.Tail n (suc m) at ▹ st) o
sign_taken n m at sign q h a x ts st o =
    subst
    (λ m. at_most (suc m) n ≡ true →
    run (tok a x (k.Infix sign) ∷ ts) (s.Tail n (suc m) at ▹ st) o
    ≡ run ts (s.Level m ▹ s.Put (note.Pair at sign) ▹ s.Tail n (suc m) at ▹ st) o)
    q
    (λ h.
    ap
    (go_on (run ts) st (steps (run ts) (tok a x (k.Infix sign) ∷ ts) a x (k.Infix sign) st) o)
    (taken n at sign h))
    h

-- behind an operand

-- an expression goes on with signs, or with `?`
pub first_tails : (p : Bool) (at : ℕ) (ts : Toks) (st : Stack) (o : Out) →
    carries ts ≡ false → assigns ts ≡ false →
    run ts (s.After s.First p at ▹ st) o ≡ run ts (s.Tail 6 0 at ▹ s.Choose at ▹ st) o
first_tails p at [] st o h g = refl
first_tails p at (tok a x k.Dot ∷ ts) st o h g = cc
first_tails p at (tok a x k.OpenRound ∷ ts) st o h g = cc
first_tails p at (tok a x k.OpenSquare ∷ ts) st o h g = cc
first_tails p at (tok a true (k.Step up) ∷ ts) st o h g = refl
first_tails p at (tok a false (k.Step up) ∷ ts) st o h g = cc
first_tails p at (tok a x (k.Assign sign) ∷ ts) st o h g = cc
first_tails p at (tok a x k.Arrow ∷ ts) st o h g = cc
first_tails p at (tok a x (k.Infix sign) ∷ ts) st o h g =
    sym
    (ap
    (λ c.
    go_on (run ts) (s.Choose at ▹ st)
    (steps (run ts) (tok a x (k.Infix sign) ∷ ts) a x (k.Infix sign) (s.Choose at ▹ st))
    o
    (sign_in c true sign 6 at))
    (six sign))
first_tails p at (tok a x t ∷ ts) st o h g = refl

pub then_skips : (p : Bool) (at : ℕ) (ts : Toks) (st : Stack) (o : Out) → carries ts ≡ false →
    run ts (s.After s.Then p at ▹ st) o ≡ run ts st o
then_skips p at [] st o h = cc
then_skips p at (tok a x k.Dot ∷ ts) st o h = cc
then_skips p at (tok a x k.OpenRound ∷ ts) st o h = cc
then_skips p at (tok a x k.OpenSquare ∷ ts) st o h = cc
then_skips p at (tok a true (k.Step up) ∷ ts) st o h = refl
then_skips p at (tok a false (k.Step up) ∷ ts) st o h = cc
then_skips p at (tok a x t ∷ ts) st o h = refl

pub before_skips : (at : ℕ) (ts : Toks) (st : Stack) (o : Out) → carries ts ≡ false →
    run ts (s.After s.Before true at ▹ st) o ≡ run ts st o
before_skips at [] st o h = cc
before_skips at (tok a x k.Dot ∷ ts) st o h = cc
before_skips at (tok a x k.OpenRound ∷ ts) st o h = cc
before_skips at (tok a x k.OpenSquare ∷ ts) st o h = cc
before_skips at (tok a true (k.Step up) ∷ ts) st o h = refl
before_skips at (tok a false (k.Step up) ∷ ts) st o h = cc
before_skips at (tok a x t ∷ ts) st o h = refl

-- an expression ends where nothing goes on with it
pub ends_here : (at : ℕ) (ts : Toks) (st : Stack) (o : Out) → goes_on ts ≡ false →
    run ts (s.Tail 6 6 at ▹ s.Choose at ▹ st) o ≡ run ts st o
ends_here at [] st o h = cc
ends_here at (tok a x (k.Infix sign) ∷ ts) st o h = cc
ends_here at (tok a x k.Quest ∷ ts) st o h = cc
ends_here at (tok a x (k.Assign sign) ∷ ts) st o h = cc
ends_here at (tok a x k.Arrow ∷ ts) st o h = cc
ends_here at (tok a x t ∷ ts) st o h = refl

-- statements

pub no_else : (l : Bool) (at : ℕ) (ts : Toks) (st : Stack) (o : Out) → else_next ts ≡ false →
    run ts (s.Else l at ▹ st) o ≡ run ts st (note.If at ∷ o)
no_else l at [] st o h = cc
no_else l at (tok a x k.Else ∷ ts) st o h = cc
no_else l at (tok a x t ∷ ts) st o h = refl

pub no_decls : (d : Binding) (ts : Toks) (st : Stack) (o : Out) → comma_next ts ≡ false →
    run ts (s.Decls d ▹ st) o ≡ run ts st o
no_decls d [] st o h = cc
no_decls d (tok a x k.Comma ∷ ts) st o h = cc
no_decls d (tok a x t ∷ ts) st o h = refl

pub bare : (d : Binding) (ts : Toks) (st : Stack) (o : Out) →
    needs_value d ≡ false → set_next ts ≡ false →
    run ts (s.Given d ▹ st) o ≡ run ts st (note.Bare ∷ o)
bare d [] st o h g = cc
bare d (tok a x (k.Assign assign.Set) ∷ ts) st o h g = cc
bare d (tok a x t ∷ ts) st o h g =
    ap
    (λ c.
    go_on (run ts) st (steps (run ts) (tok a x t ∷ ts) a x t st) o
    (stop_if c (Pass (note.Bare ∷ []))))
    h

line_ends : (t : Kind) (a : ℕ) (ts : Toks) (st : Stack) (o : Out) →
    semi_next (tok a true t ∷ ts) ≡ false →
    run (tok a true t ∷ ts) (s.End ▹ st) o ≡ run (tok a true t ∷ ts) st o
line_ends k.Semi a ts st o h = cc
line_ends t a ts st o h = refl

line_returns : (t : Kind) (a at : ℕ) (ts : Toks) (st : Stack) (o : Out) →
    semi_next (tok a true t ∷ ts) ≡ false →
    run (tok a true t ∷ ts) (s.Return at ▹ st) o ≡ run (tok a true t ∷ ts) st (note.Return at ∷ o)
line_returns k.Semi a at ts st o h = cc
line_returns t a at ts st o h = refl

pub c_ends : {ts r : Toks} → EndsAt ts r → (st : Stack) (o : Out) →
    run ts (s.End ▹ st) o ≡ run r st o
c_ends g.semi st o = refl
c_ends g.brace st o = refl
c_ends g.end st o = refl
c_ends (g.line {a} {t} {r} h) st o = line_ends t a r st o h

pub c_return : {ts r : Toks} → EndsAt ts r → (at : ℕ) (st : Stack) (o : Out) →
    run ts (s.Return at ▹ st) o ≡ run r st (note.Return at ∷ o)
c_return (g.semi {r = r}) at st o = put r (note.Return at) st o
c_return g.brace at st o = refl
c_return g.end at st o = refl
c_return (g.line {a} {t} {r} h) at st o = line_returns t a at r st o h

-- words and keys

pub word_is : (t : Kind) (w : List ℕ) → word_of t ≡ Some w →
    (a at : ℕ) (x : Bool) (ts : Toks) (st : Stack) (o : Out) →
    run (tok a x t ∷ ts) (s.Word at ▹ st) o ≡ run ts st (note.Member at w ∷ o)
word_is t w h a at x ts st o =
    ap
    (λ c. go_on (run ts) st (steps (run ts) (tok a x t ∷ ts) a x t st) o (word c at))
    h
    ∙ put ts (note.Member at w) st o

pub key_is : (t : Kind) (w : List ℕ) → key_of t ≡ Some w →
    (a : ℕ) (x : Bool) (ts : Toks) (st : Stack) (o : Out) →
    run (tok a x t ∷ ts) (s.Members ▹ st) o
    ≡ run ts (s.Want s.Colon ▹ s.Expr ▹ s.Put note.Member_ ▹ s.MoreMembers ▹ st) (note.Key a w ∷ o)
key_is k.CloseBrace w h a x ts st o = cc
key_is t w h a x ts st o =
    ap
    (λ c. go_on (run ts) st (steps (run ts) (tok a x t ∷ ts) a x t st) o (keyed c a))
    h
    ∙ put ts (note.Key a w) _ o
