-- Each row of the table that reads names and lists keeps a stack one that tokens complete.
use Rattle.std.proofs.Common.{ℕ, List, [], ◌∷◌, Bool}
use Rattle.std.proofs.Common.{Option, Some, None}
use Rattle.sjs_grammar.specs.Kinds as k
use Rattle.sjs_grammar.specs.Kinds.{Kind, Lit, word_of, key_of, level, needs_value}
use Rattle.sjs_table.specs.Notes as note
use Rattle.sjs_table.specs.Notes.{Note, Out}
use Rattle.sjs_table.specs.Runs.{Stack, ◌▹◌}
use Rattle.sjs_table.specs.Symbols as s
use Rattle.sjs_table.specs.Symbols.{Sym, Mode, Mark}
use Rattle.sjs_table.specs.Table as table
use Rattle.sjs_table.specs.Table.{Act, Take, Pass, Stop, act, at_most, then, first}
use Rattle.sjs_refusal.proofs.ExprKept.{Keeps, Kept, then_kept, k_expr}

pub k_names : (t : Kind) (b : ℕ) (x : Bool) (st : Stack) → Kept s.Names b x t st
k_names (k.Name n) b x st = λ h g. (tt, (h, g))
k_names t b x st = tt

pub k_more_names : (t : Kind) (b : ℕ) (x : Bool) (st : Stack) → Kept s.MoreNames b x t st
k_more_names k.Comma b x st = λ h g. (h, g)
k_more_names t b x st = tt

pub k_params : (t : Kind) (b : ℕ) (x : Bool) (st : Stack) → Kept s.Params b x t st
k_params k.CloseRound b x st = λ h g. g
k_params t b x st =
    then_kept s.Params s.Names (s.Want s.CloseRound ∷ []) st (table.names t b)
    (λ h g. (tt, (tt, g))) (k_names t b x (s.Want s.CloseRound ▹ st))

pub k_args : (t : Kind) (b : ℕ) (x : Bool) (st : Stack) → Kept s.Args b x t st
k_args k.CloseRound b x st = λ h g. g
k_args t b x st =
    then_kept s.Args s.Expr (s.Put note.Expr ∷ s.MoreArgs ∷ []) st (table.expr t b)
    (λ h g. (tt, (tt, (tt, g)))) (k_expr t b x (s.Put note.Expr ▹ s.MoreArgs ▹ st))

pub k_more_args : (t : Kind) (b : ℕ) (x : Bool) (st : Stack) → Kept s.MoreArgs b x t st
k_more_args k.Comma b x st = λ h g. (tt, (tt, (tt, g)))
k_more_args k.CloseRound b x st = λ h g. g
k_more_args t b x st = tt

pub k_items : (t : Kind) (b : ℕ) (x : Bool) (st : Stack) → Kept s.Items b x t st
k_items k.CloseSquare b x st = λ h g. g
k_items t b x st =
    then_kept s.Items s.Expr (s.Put note.Expr ∷ s.MoreItems ∷ []) st (table.expr t b)
    (λ h g. (tt, (tt, (tt, g)))) (k_expr t b x (s.Put note.Expr ▹ s.MoreItems ▹ st))

pub k_more_items : (t : Kind) (b : ℕ) (x : Bool) (st : Stack) → Kept s.MoreItems b x t st
k_more_items k.Comma b x st = λ h g. (tt, g)
k_more_items k.CloseSquare b x st = λ h g. g
k_more_items t b x st = tt

pub k_keyed : (w : Option (List ℕ)) (b : ℕ) (st : Stack) → Keeps s.Members st (table.keyed w b)
k_keyed (Some w) b st = λ h g. (tt, (tt, (tt, (tt, (tt, g)))))
k_keyed None b st = tt

pub k_members : (t : Kind) (b : ℕ) (x : Bool) (st : Stack) → Kept s.Members b x t st
k_members k.CloseBrace b x st = λ h g. g
k_members t b x st = k_keyed (key_of t) b st

pub k_more_members : (t : Kind) (b : ℕ) (x : Bool) (st : Stack) → Kept s.MoreMembers b x t st
k_more_members k.Comma b x st = λ h g. (tt, g)
k_more_members k.CloseBrace b x st = λ h g. g
k_more_members t b x st = tt

pub k_word : (w : Option (List ℕ)) (at : ℕ) (st : Stack) → Keeps (s.Word at) st (table.word w at)
k_word (Some w) at st = λ h g. (tt, g)
k_word None at st = tt
