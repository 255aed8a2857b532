-- Each row of the table that reads expressions keeps a stack one that tokens complete.
use Rattle.std.proofs.Common.{◌≡◌, ℕ, suc, List, [], ◌∷◌, ◌++◌, Bool, true, false, refl}
use Rattle.std.proofs.Common.{sym, ap, subst}
use Rattle.sjs_syntax.specs.declared.signs.PairSign.{PairSign}
use Rattle.sjs_syntax.specs.declared.signs.PairSign.TheVariants as pair
use Rattle.sjs_grammar.specs.Kinds as k
use Rattle.sjs_grammar.specs.Kinds.{Kind, Lit, word_of, key_of, level, needs_value}
use Rattle.sjs_table.specs.Notes as note
use Rattle.sjs_table.specs.Notes.{Note, Out}
use Rattle.sjs_table.specs.Runs.{Stack, ◌▹◌, onto}
use Rattle.sjs_table.specs.Symbols as s
use Rattle.sjs_table.specs.Symbols.{Sym, Mode, Mark}
use Rattle.sjs_table.specs.Table as table
use Rattle.sjs_table.specs.Table.{Act, Take, Pass, Stop, act, at_most, then, first}
use Rattle.sjs_refusal.proofs.Good.{finish, Good, Behind}

-- an act keeps a stack good
abbrev pub Keeps : Sym → Stack → Act → Type 0
Keeps y st (Take ys) = Behind y (finish st) → Good st → Good (onto ys st)
Keeps y st (Pass n) = Unit {0}
Keeps y st Stop = Unit {0}

abbrev pub Kept : Sym → ℕ → Bool → Kind → Stack → Type 0
Kept y b x t st = Keeps y st (act y b x t)

onto_append : (xs ys : List Sym) (st : Stack) → onto (xs ++ ys) st ≡ onto xs (onto ys st)
onto_append [] ys st = refl
onto_append (x ∷ xs) ys st = ap (λ w. x ▹ w) (onto_append xs ys st)

pub then_kept : (y z : Sym) (ys : List Sym) (st : Stack) (c : Act) →
    (Behind y (finish st) → Good st → Behind z (finish (onto ys st)) × Good (onto ys st)) →
    Keeps z (onto ys st) c → Keeps y st (then c ys)
then_kept y z ys st (Take xs) f d =
    λ h g. let u = f h g in subst Good (sym (onto_append xs ys st)) (d u.0 u.1)
then_kept y z ys st (Pass n) f d = tt
then_kept y z ys st Stop f d = tt

pub like_kept : (y z : Sym) (st : Stack) (c : Act) →
    (Behind y (finish st) → Behind z (finish st)) → Keeps z st c → Keeps y st c
like_kept y z st (Take xs) f d = λ h g. d (f h) g
like_kept y z st (Pass n) f d = tt
like_kept y z st Stop f d = tt

pub first_kept : (y z : Sym) (n : Note) (st : Stack) (c : Act) →
    (Behind y (finish st) → Behind z (finish st)) → Keeps z st c → Keeps y st (first n c)
first_kept y z n st (Take xs) f d = λ h g. (tt, d (f h) g)
first_kept y z n st (Pass ns) f d = tt
first_kept y z n st Stop f d = tt

pub k_want : (w : Mark) (t : Kind) (b : ℕ) (x : Bool) (st : Stack) → Kept (s.Want w) b x t st
k_want s.OpenRound k.OpenRound b x st = λ h g. g
k_want s.CloseRound k.CloseRound b x st = λ h g. g
k_want s.OpenBrace k.OpenBrace b x st = λ h g. g
k_want s.CloseBrace k.CloseBrace b x st = λ h g. g
k_want s.CloseSquare k.CloseSquare b x st = λ h g. g
k_want s.Semi k.Semi b x st = λ h g. g
k_want s.Colon k.Colon b x st = λ h g. g
k_want s.Arrow k.Arrow b x st = λ h g. g
k_want s.While k.While b x st = λ h g. g
k_want s.End k.End b x st = λ h g. g
k_want w t b x st = tt

pub k_name : (t : Kind) (b : ℕ) (x : Bool) (st : Stack) → Kept s.Name b x t st
k_name (k.Name n) b x st = λ h g. (tt, g)
k_name t b x st = tt

pub k_prim : (t : Kind) (m : Mode) (b : ℕ) (x : Bool) (st : Stack) → Kept (s.Prim m) b x t st
k_prim (k.Number n) m b x st = λ h g. (tt, (h, g))
k_prim (k.Text w) m b x st = λ h g. (tt, (h, g))
k_prim (k.Value lit) m b x st = λ h g. (tt, (h, g))
k_prim (k.Name n) m b x st = λ h g. (tt, (h, g))
k_prim k.OpenRound m b x st = λ h g. (tt, (tt, (tt, (h, g))))
k_prim k.OpenSquare m b x st = λ h g. (tt, (tt, (tt, (h, g))))
k_prim k.OpenBrace m b x st = λ h g. (tt, (tt, (tt, (h, g))))
k_prim k.Function m b x st = λ h g. (tt, (h, g))
k_prim t m b x st = tt

pub k_operand : (t : Kind) (b : ℕ) (x : Bool) (st : Stack) → Kept s.Operand b x t st
k_operand k.Bang b x st = λ h g. (h, (tt, g))
k_operand (k.Infix pair.Sub) b x st = λ h g. (h, (tt, g))
k_operand (k.Infix pair.Add) b x st = λ h g. (h, (tt, g))
k_operand k.TypeOf b x st = λ h g. (h, (tt, g))
k_operand (k.Step up) b x st = λ h g. (h, (tt, g))
k_operand t b x st = like_kept s.Operand (s.Prim s.Then) st (table.prim t b s.Then) (λ h. h)
    (k_prim t s.Then b x st)

pub k_expr : (t : Kind) (b : ℕ) (x : Bool) (st : Stack) → Kept s.Expr b x t st
k_expr (k.Name n) b x st = λ h g. (h, g)
k_expr k.OpenRound b x st = λ h g. (h, g)
k_expr (k.Number n) b x st =
    like_kept s.Expr (s.Prim s.First) st (table.prim (k.Number n) b s.First) (λ h. h) (k_prim
    (k.Number n) s.First b x st)
k_expr (k.Text w) b x st =
    like_kept s.Expr (s.Prim s.First) st (table.prim (k.Text w) b s.First) (λ h. h) (k_prim (k.Text
    w) s.First b x st)
k_expr (k.Value lit) b x st =
    like_kept s.Expr (s.Prim s.First) st (table.prim (k.Value lit) b s.First) (λ h. h) (k_prim
    (k.Value lit) s.First b x st)
k_expr k.OpenSquare b x st =
    like_kept s.Expr (s.Prim s.First) st (table.prim k.OpenSquare b s.First) (λ h. h) (k_prim
    k.OpenSquare s.First b x st)
k_expr k.OpenBrace b x st =
    like_kept s.Expr (s.Prim s.First) st (table.prim k.OpenBrace b s.First) (λ h. h) (k_prim
    k.OpenBrace s.First b x st)
k_expr k.Function b x st =
    like_kept s.Expr (s.Prim s.First) st (table.prim k.Function b s.First) (λ h. h) (k_prim
    k.Function s.First b x st)
k_expr t b x st =
    then_kept s.Expr s.Operand (s.Tail 6 0 b ∷ s.Choose b ∷ []) st (table.operand t b)
    (λ h g. (h, (h, (h, g)))) (k_operand t b x (s.Tail 6 0 b ▹ s.Choose b ▹ st))

pub k_level : (t : Kind) (n : ℕ) (b : ℕ) (x : Bool) (st : Stack) → Kept (s.Level n) b x t st
k_level t n b x st =
    then_kept (s.Level n) s.Operand (s.Tail n 0 b ∷ []) st (table.operand t b)
    (λ h g. (h, (h, g))) (k_operand t b x (s.Tail n 0 b ▹ st))

pub k_step : (x : Bool) (m : Mode) (p up : Bool) (at : ℕ) (st : Stack) →
    Keeps (s.After m p at) st (table.step x m p up at)
k_step true s.First p up at st = tt
k_step true s.Then p up at st = tt
k_step true s.Before true up at st = tt
k_step true s.Before false up at st = tt
k_step false s.First true up at st = λ h g. (tt, (h, (h, g)))
k_step false s.Then true up at st = λ h g. (tt, g)
k_step false s.First false up at st = tt
k_step false s.Then false up at st = tt
k_step false s.Before p up at st = tt

pub k_after : (t : Kind) (m : Mode) (p : Bool) (at : ℕ) (b : ℕ) (x : Bool) (st : Stack) →
    Kept (s.After m p at) b x t st
k_after k.Dot m p at b x st = λ h g. (tt, (h, g))
k_after k.OpenRound m p at b x st = λ h g. (tt, (tt, (tt, (h, g))))
k_after k.OpenSquare m p at b x st = λ h g. (tt, (tt, (tt, (h, g))))
k_after (k.Step up) m p at b x st = k_step x m p up at st
k_after (k.Infix sign) s.First p at b x st = λ h g. (h, (tt, (h, (h, g))))
k_after k.Quest s.First p at b x st = λ h g. (tt, (tt, (h, (tt, g))))
k_after (k.Assign sign) s.First true at b x st = λ h g. (h, (tt, g))
k_after (k.Assign sign) s.First false at b x st = tt
k_after k.Arrow s.First p at b x st = tt
k_after t s.First p at b x st = tt
k_after t s.Then p at b x st = tt
k_after t s.Before true at b x st = tt
k_after t s.Before false at b x st = tt

pub k_sign : (under over : Bool) (sign : PairSign) (n j at : ℕ) (st : Stack) →
    Keeps (s.Tail n j at) st (table.sign_in under over sign n at)
k_sign true true sign n j at st = λ h g. (h, (tt, (h, g)))
k_sign true false sign n j at st = tt
k_sign false over sign n j at st = tt

pub k_tail : (t : Kind) (n j at : ℕ) (b : ℕ) (x : Bool) (st : Stack) → Kept (s.Tail n j at) b x t st
k_tail (k.Infix sign) n j at b x st =
    k_sign (at_most (suc (level sign)) n) (at_most j (suc (level sign))) sign n j at st
k_tail t n j at b x st = tt

pub k_choose : (t : Kind) (at : ℕ) (b : ℕ) (x : Bool) (st : Stack) → Kept (s.Choose at) b x t st
k_choose k.Quest at b x st = λ h g. (tt, (tt, (h, (tt, g))))
k_choose t at b x st = tt

pub k_after_name : (t : Kind) (a : ℕ) (n : List ℕ) (b : ℕ) (x : Bool) (st : Stack) →
    Kept (s.AfterName a n) b x t st
k_after_name k.Arrow a n b x st = λ h g. (tt, (tt, (h, g)))
k_after_name t a n b x st =
    first_kept (s.AfterName a n) (s.After s.First true a) (note.Name a n) st
    (table.after t x s.First true a) (λ h. h) (k_after t s.First true a b x st)

pub k_open : (t : Kind) (a : ℕ) (b : ℕ) (x : Bool) (st : Stack) → Kept (s.Open a) b x t st
k_open k.CloseRound a b x st = λ h g. (tt, (tt, (h, g)))
k_open (k.Name n) a b x st = λ h g. (h, g)
k_open t a b x st =
    then_kept (s.Open a) s.Expr (table.in_round a) st (table.expr t b)
    (λ h g. (tt, (tt, (tt, (h, g))))) (k_expr t b x (onto (table.in_round a) st))

pub k_open_name : (t : Kind) (a c : ℕ) (n : List ℕ) (b : ℕ) (x : Bool) (st : Stack) →
    Kept (s.OpenName a c n) b x t st
k_open_name k.Comma a c n b x st = λ h g. (tt, (tt, (tt, (tt, (tt, (h, g))))))
k_open_name k.CloseRound a c n b x st = λ h g. (h, g)
k_open_name t a c n b x st =
    then_kept (s.OpenName a c n) (s.AfterName c n) (table.in_round a) st (table.after_name t x c n)
    (λ h g. (tt, (tt, (tt, (h, g))))) (k_after_name t c n b x (onto (table.in_round a) st))

pub k_closed : (t : Kind) (a c : ℕ) (n : List ℕ) (b : ℕ) (x : Bool) (st : Stack) →
    Kept (s.Closed a c n) b x t st
k_closed k.Arrow a c n b x st = λ h g. (tt, (tt, (h, g)))
k_closed t a c n b x st =
    first_kept (s.Closed a c n) (s.After s.First false a) (note.Name c n) st
    (first (note.Round a) (table.after t x s.First false a)) (λ h. h)
    (first_kept (s.After s.First false a) (s.After s.First false a) (note.Round a) st
    (table.after t x s.First false a) (λ h. h) (k_after t s.First false a b x st))
