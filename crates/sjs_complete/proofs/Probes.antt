-- What the machine does at a token that begins what is expected: a probe of the same tokens, with
-- a test below it, excludes the others.
use Rattle.std.proofs.Common.{◌≡◌, ℕ, List, [], ◌∷◌, Bool, true, false, refl}
use Rattle.std.proofs.Common.{Some, ◌∙◌}
use Rattle.sjs_syntax.specs.declared.signs.PairSign.TheVariants as pair
use Rattle.sjs_grammar.specs.Kinds as k
use Rattle.sjs_grammar.specs.Kinds.{Kind, Lit, word_of, key_of, level, needs_value}
use Rattle.sjs_grammar.specs.Tokens.{tok, Toks, begins, broken}
use Rattle.sjs_grammar.specs.Tokens.{brace_next}
use Rattle.sjs_grammar.specs.Tokens.{brace_or_function_next}
use Rattle.sjs_table.specs.Notes as note
use Rattle.sjs_table.specs.Notes.{Note, Out}
use Rattle.sjs_table.specs.Runs.{Stack, Done, ◌▹◌, run, onto}
use Rattle.sjs_table.specs.Symbols as s
use Rattle.sjs_table.specs.Symbols.{Sym, Mode, Mark}
use Rattle.sjs_table.specs.Table.{for_rest}
use Rattle.sjs_complete.proofs.Skips.{put, arrow_next}

-- any tokens may be left
abbrev pub any : Stack
any = Done (λ ts. true)

abbrev pub negate : Bool → Bool
negate true = false
negate false = true

-- any tokens may be left but an arrow
abbrev pub probe : Stack
probe = Done (λ ts. negate (arrow_next ts))

pub any_true : (ts : Toks) (o : Out) → run ts any o ≡ Some o
any_true [] o = refl
any_true (tok a x t ∷ ts) o = refl

pub probe_true : (ts : Toks) (o : Out) → arrow_next ts ≡ false → run ts probe o ≡ Some o
probe_true [] o h = refl
probe_true (tok a x k.Arrow ∷ ts) o h = cc
probe_true (tok a x t ∷ ts) o h = refl

-- operands with signs begin with an operand
pub level_is : (n : ℕ) (ts : Toks) (st : Stack) (o : Out) →
    run ts (s.Level n ▹ st) o ≡ run ts (s.Operand ▹ s.Tail n 0 (begins ts) ▹ st) o
level_is n [] st o = refl
level_is n (tok b x (k.Infix pair.Sub) ∷ ts) st o = refl
level_is n (tok b x (k.Infix pair.Add) ∷ ts) st o = refl
level_is n (tok b x t ∷ ts) st o = refl

-- a statement that is an expression
pub stmt_is : (l : Bool) (ts : Toks) (st : Stack) (o w : Out) →
    brace_or_function_next ts ≡ false → run ts (s.Expr ▹ any) o ≡ Some w →
    run ts (s.Stmt l ▹ st) o ≡ run ts (s.Expr ▹ s.End ▹ s.Put (note.Value (begins ts)) ▹ st) o
stmt_is l [] st o w g h = refl
stmt_is l (tok b x k.OpenBrace ∷ ts) st o w g h = cc
stmt_is l (tok b x k.Function ∷ ts) st o w g h = cc
stmt_is l (tok b x k.Semi ∷ ts) st o w g h = cc
stmt_is l (tok b x (k.Bind d) ∷ ts) st o w g h = cc
stmt_is l (tok b x k.If ∷ ts) st o w g h = cc
stmt_is l (tok b x k.While ∷ ts) st o w g h = cc
stmt_is l (tok b x k.Do ∷ ts) st o w g h = cc
stmt_is l (tok b x k.For ∷ ts) st o w g h = cc
stmt_is l (tok b x k.Break ∷ ts) st o w g h = cc
stmt_is l (tok b x k.Continue ∷ ts) st o w g h = cc
stmt_is l (tok b x k.Return ∷ ts) st o w g h = cc
stmt_is l (tok b x (k.Infix pair.Sub) ∷ ts) st o w g h = refl
stmt_is l (tok b x (k.Infix pair.Add) ∷ ts) st o w g h = refl
stmt_is l (tok b x t ∷ ts) st o w g h = refl

-- statements that begin with one
pub stmts_is : (l : Bool) (ts : Toks) (st : Stack) (o w : Out) →
    run ts (s.Stmt l ▹ any) o ≡ Some w →
    run ts (s.Stmts l ▹ st) o ≡ run ts (s.Stmt l ▹ s.Put note.Stmt ▹ s.Stmts l ▹ st) o
stmts_is l [] st o w h = refl
stmts_is l (tok b x k.CloseBrace ∷ ts) st o w h = cc
stmts_is l (tok b x k.End ∷ ts) st o w h = cc
stmts_is true (tok b x k.Break ∷ ts) st o w h = refl
stmts_is false (tok b x k.Break ∷ ts) st o w h = refl
stmts_is true (tok b x k.Continue ∷ ts) st o w h = refl
stmts_is false (tok b x k.Continue ∷ ts) st o w h = refl
stmts_is l (tok b x (k.Infix pair.Sub) ∷ ts) st o w h = refl
stmts_is l (tok b x (k.Infix pair.Add) ∷ ts) st o w h = refl
stmts_is l (tok b x t ∷ ts) st o w h = refl

-- a value behind `return`
pub return_is : (at : ℕ) (ts : Toks) (st : Stack) (o w : Out) →
    broken ts ≡ false → run ts (s.Expr ▹ any) o ≡ Some w →
    run ts (s.Return at ▹ st) o ≡ run ts (s.Expr ▹ s.End ▹ s.Put (note.ReturnValue at) ▹ st) o
return_is at [] st o w g h = refl
return_is at (tok b true t ∷ ts) st o w g h = cc
return_is at (tok b false k.Semi ∷ ts) st o w g h = cc
return_is at (tok b false k.CloseBrace ∷ ts) st o w g h = cc
return_is at (tok b false k.End ∷ ts) st o w g h = cc
return_is at (tok b false (k.Infix pair.Sub) ∷ ts) st o w g h = refl
return_is at (tok b false (k.Infix pair.Add) ∷ ts) st o w g h = refl
return_is at (tok b false t ∷ ts) st o w g h = refl

-- a body that is an expression
pub body_is : (at : ℕ) (ts : Toks) (st : Stack) (o w : Out) →
    brace_next ts ≡ false → run ts (s.Expr ▹ any) o ≡ Some w →
    run ts (s.Body at ▹ st) o ≡ run ts (s.Expr ▹ s.Put (note.Arrow at) ▹ st) o
body_is at [] st o w g h = refl
body_is at (tok b x k.OpenBrace ∷ ts) st o w g h = cc
body_is at (tok b x (k.Infix pair.Sub) ∷ ts) st o w g h = refl
body_is at (tok b x (k.Infix pair.Add) ∷ ts) st o w g h = refl
body_is at (tok b x t ∷ ts) st o w g h = refl

-- a value that comes first in a `for`
pub init_is : (at : ℕ) (ts : Toks) (st : Stack) (o w : Out) →
    run ts (s.Expr ▹ any) o ≡ Some w →
    run ts (s.Init at ▹ st) o ≡ run ts (s.Expr ▹ s.Put note.ValueInit ▹ s.Want s.Semi
    ▹ onto (for_rest at) st) o
init_is at [] st o w h = refl
init_is at (tok b x k.Semi ∷ ts) st o w h = cc
init_is at (tok b x (k.Bind d) ∷ ts) st o w h = cc
init_is at (tok b x (k.Infix pair.Sub) ∷ ts) st o w h = refl
init_is at (tok b x (k.Infix pair.Add) ∷ ts) st o w h = refl
init_is at (tok b x t ∷ ts) st o w h = refl

-- a test
pub test_is : (ts : Toks) (st : Stack) (o w : Out) →
    run ts (s.Expr ▹ any) o ≡ Some w →
    run ts (s.Test ▹ st) o ≡ run ts (s.Expr ▹ s.Put note.Present ▹ s.Want s.Semi ▹ st) o
test_is [] st o w h = refl
test_is (tok b x k.Semi ∷ ts) st o w h = cc
test_is (tok b x (k.Infix pair.Sub) ∷ ts) st o w h = refl
test_is (tok b x (k.Infix pair.Add) ∷ ts) st o w h = refl
test_is (tok b x t ∷ ts) st o w h = refl

-- what ends a turn
pub last_is : (ts : Toks) (st : Stack) (o w : Out) →
    run ts (s.Expr ▹ any) o ≡ Some w →
    run ts (s.Last ▹ st) o ≡ run ts (s.Expr ▹ s.Put note.Present ▹ s.Want s.CloseRound ▹ st) o
last_is [] st o w h = refl
last_is (tok b x k.CloseRound ∷ ts) st o w h = cc
last_is (tok b x (k.Infix pair.Sub) ∷ ts) st o w h = refl
last_is (tok b x (k.Infix pair.Add) ∷ ts) st o w h = refl
last_is (tok b x t ∷ ts) st o w h = refl

-- an argument
pub args_is : (ts : Toks) (st : Stack) (o w : Out) →
    run ts (s.Expr ▹ any) o ≡ Some w →
    run ts (s.Args ▹ st) o ≡ run ts (s.Expr ▹ s.Put note.Expr ▹ s.MoreArgs ▹ st) o
args_is [] st o w h = refl
args_is (tok b x k.CloseRound ∷ ts) st o w h = cc
args_is (tok b x (k.Infix pair.Sub) ∷ ts) st o w h = refl
args_is (tok b x (k.Infix pair.Add) ∷ ts) st o w h = refl
args_is (tok b x t ∷ ts) st o w h = refl

-- an element of a list
pub items_is : (ts : Toks) (st : Stack) (o w : Out) →
    run ts (s.Expr ▹ any) o ≡ Some w →
    run ts (s.Items ▹ st) o ≡ run ts (s.Expr ▹ s.Put note.Expr ▹ s.MoreItems ▹ st) o
items_is [] st o w h = refl
items_is (tok b x k.CloseSquare ∷ ts) st o w h = cc
items_is (tok b x (k.Infix pair.Sub) ∷ ts) st o w h = refl
items_is (tok b x (k.Infix pair.Add) ∷ ts) st o w h = refl
items_is (tok b x t ∷ ts) st o w h = refl

-- behind a name that is no parameter
pub after_name : (a : ℕ) (n : List ℕ) (ts : Toks) (st : Stack) (o : Out) →
    arrow_next ts ≡ false →
    run ts (s.AfterName a n ▹ st) o ≡ run ts (s.After s.First true a ▹ st) (note.Name a n ∷ o)
after_name a n [] st o h = refl
after_name a n (tok b x k.Arrow ∷ ts) st o h = cc
after_name a n (tok b true (k.Step up) ∷ ts) st o h = refl
after_name a n (tok b false (k.Step up) ∷ ts) st o h = put ts (note.Name a n) _ o
after_name a n (tok b x k.Dot ∷ ts) st o h = put ts (note.Name a n) _ o
after_name a n (tok b x k.OpenRound ∷ ts) st o h = put ts (note.Name a n) _ o
after_name a n (tok b x k.OpenSquare ∷ ts) st o h = put ts (note.Name a n) _ o
after_name a n (tok b x (k.Infix sign) ∷ ts) st o h = put ts (note.Name a n) _ o
after_name a n (tok b x k.Quest ∷ ts) st o h = put ts (note.Name a n) _ o
after_name a n (tok b x (k.Assign sign) ∷ ts) st o h = put ts (note.Name a n) _ o
after_name a n (tok b x t ∷ ts) st o h = refl

-- behind a name in round brackets that is no parameter
closed_is : (a b : ℕ) (n : List ℕ) (ts : Toks) (st : Stack) (o p w : Out) →
    run ts probe p ≡ Some w →
    run ts (s.Closed a b n ▹ st) o
    ≡ run ts (s.Put (note.Round a) ▹ s.After s.First false a ▹ st) (note.Name b n ∷ o)
closed_is a b n [] st o p w h = refl
closed_is a b n (tok c x k.Arrow ∷ ts) st o p w h = cc
closed_is a b n (tok c true (k.Step up) ∷ ts) st o p w h = refl
closed_is a b n (tok c false (k.Step up) ∷ ts) st o p w h = refl
closed_is a b n (tok c x k.Dot ∷ ts) st o p w h =
    put ts (note.Name b n) _ o ∙ put ts (note.Round a) _ _
closed_is a b n (tok c x k.OpenRound ∷ ts) st o p w h =
    put ts (note.Name b n) _ o ∙ put ts (note.Round a) _ _
closed_is a b n (tok c x k.OpenSquare ∷ ts) st o p w h =
    put ts (note.Name b n) _ o ∙ put ts (note.Round a) _ _
closed_is a b n (tok c x (k.Infix sign) ∷ ts) st o p w h =
    put ts (note.Name b n) _ o ∙ put ts (note.Round a) _ _
closed_is a b n (tok c x k.Quest ∷ ts) st o p w h =
    put ts (note.Name b n) _ o ∙ put ts (note.Round a) _ _
closed_is a b n (tok c x t ∷ ts) st o p w h = refl

-- behind a round bracket and a name that is no parameter
open_name_is : (a b : ℕ) (n : List ℕ) (ts : Toks) (st : Stack) (o w : Out) →
    run ts (s.AfterName b n ▹ s.Want s.CloseRound ▹ probe) o ≡ Some w →
    run ts (s.OpenName a b n ▹ st) o
    ≡ run ts
    (s.AfterName b n ▹ s.Want s.CloseRound ▹ s.Put (note.Round a) ▹ s.After s.First false a ▹ st)
    o
open_name_is a b n [] st o w h = refl
open_name_is a b n (tok c x k.Comma ∷ ts) st o w h = cc
open_name_is a b n (tok c x k.CloseRound ∷ ts) st o w h =
    closed_is a b n ts st o (note.Name b n ∷ o) w h
open_name_is a b n (tok c true (k.Step up) ∷ ts) st o w h = refl
open_name_is a b n (tok c false (k.Step up) ∷ ts) st o w h = refl
open_name_is a b n (tok c x t ∷ ts) st o w h = refl

-- behind a round bracket that holds an expression
pub open_is : (a : ℕ) (ts : Toks) (st : Stack) (o w : Out) →
    run ts (s.Expr ▹ s.Want s.CloseRound ▹ probe) o ≡ Some w →
    run ts (s.Open a ▹ st) o
    ≡ run ts (s.Expr ▹ s.Want s.CloseRound ▹ s.Put (note.Round a) ▹ s.After s.First false a ▹ st) o
open_is a [] st o w h = refl
open_is a (tok b x k.CloseRound ∷ ts) st o w h = cc
open_is a (tok b x (k.Name n) ∷ ts) st o w h = open_name_is a b n ts st o w h
open_is a (tok b x (k.Infix pair.Sub) ∷ ts) st o w h = refl
open_is a (tok b x (k.Infix pair.Add) ∷ ts) st o w h = refl
open_is a (tok b x t ∷ ts) st o w h = refl
