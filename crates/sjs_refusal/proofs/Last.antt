-- Behind the token that ends the text nothing is expected.
use Rattle.std.proofs.Common.{◌≡◌, ℕ, [], ◌∷◌, ◌++◌, Bool, true, false}
use Rattle.std.proofs.Common.{subst}
use Rattle.sjs_syntax.specs.declared.statements.Binding.{Binding}
use Rattle.sjs_syntax.specs.declared.statements.Binding.TheVariants as binding
use Rattle.sjs_grammar.specs.Kinds as k
use Rattle.sjs_grammar.specs.Kinds.{Kind, Lit, word_of, key_of, level, needs_value}
use Rattle.sjs_table.specs.Notes as note
use Rattle.sjs_table.specs.Notes.{Note, Out}
use Rattle.sjs_table.specs.Runs.{Stack, Done, ◌▹◌, onto}
use Rattle.sjs_table.specs.Symbols as s
use Rattle.sjs_table.specs.Symbols.{Sym, Mode, Mark}
use Rattle.sjs_table.specs.Table as table
use Rattle.sjs_table.specs.Table.{Act, Take, Pass, Stop, act, at_most, then, first}
use Rattle.sjs_table.specs.Table.{stop_if}
use Rattle.sjs_refusal.specs.Refusal.{Next, Dead, Live, pick, next}
use Rattle.sjs_refusal.proofs.Good.{finish, Good, Behind}

-- an act at the end of the text leaves nothing expected, where it takes the token
abbrev Last : Sym → Stack → Act → Type 0
Last y st (Take ys) = Behind y (finish st) → finish (onto ys st) ≡ []
Last y st (Pass n) = Unit {0}
Last y st Stop = Unit {0}

last_mark : (w : Mark) (b : ℕ) (x : Bool) (st : Stack) → Last (s.Want w) st (table.want w k.End)
last_mark s.End b x st = λ h. h
last_mark w b x st = tt

last_after : (m : Mode) (p : Bool) (a : ℕ) (st : Stack) → Last (s.After m p a) st (table.skip m p)
last_after s.First p a st = tt
last_after s.Then p a st = tt
last_after s.Before true a st = tt
last_after s.Before false a st = tt

last_given : (d : Binding) (st : Stack) →
    Last (s.Given d) st (stop_if (needs_value d) (Pass (note.Bare ∷ [])))
last_given binding.Var st = tt
last_given binding.Let st = tt
last_given binding.Const st = tt

last : (y : Sym) (b : ℕ) (x : Bool) (st : Stack) → Last y st (act y b x k.End)
last (s.Want w) b x st = last_mark w b x st
last (s.After m p a) b x st = last_after m p a st
last (s.Given d) b x st = last_given d st
last (s.Put n) b x st = tt
last s.Name b x st = tt
last (s.Stmts l) b x st = tt
last (s.Stmt l) b x st = tt
last (s.Else l a) b x st = tt
last s.End b x st = tt
last (s.Return a) b x st = tt
last (s.Decl d) b x st = tt
last (s.Decls d) b x st = tt
last (s.Init a) b x st = tt
last (s.ForName a d) b x st = tt
last (s.ForNext a d c n) b x st = tt
last s.Test b x st = tt
last s.Last b x st = tt
last s.Expr b x st = tt
last s.Operand b x st = tt
last (s.Level n) b x st = tt
last (s.Prim m) b x st = tt
last (s.Tail n j a) b x st = tt
last (s.Choose a) b x st = tt
last (s.AfterName a n) b x st = tt
last (s.Open a) b x st = tt
last (s.OpenName a c n) b x st = tt
last (s.Closed a c n) b x st = tt
last (s.Body a) b x st = tt
last (s.Function a) b x st = tt
last (s.Code n) b x st = tt
last s.Names b x st = tt
last s.MoreNames b x st = tt
last s.Params b x st = tt
last s.Args b x st = tt
last s.MoreArgs b x st = tt
last s.Items b x st = tt
last s.MoreItems b x st = tt
last s.Members b x st = tt
last s.MoreMembers b x st = tt
last (s.Word a) b x st = tt

abbrev NextLast : Next → Type 0
NextLast Dead = Unit {0}
NextLast (Live st o) = finish st ≡ []

pick_last : (y : Sym) (st : Stack) (below : Out → Next) (o : Out) (c : Act) →
    Last y st c → Behind y (finish st) → ((z : Out) → NextLast (below z)) →
    NextLast (pick st below o c)
pick_last y st below o (Take ys) f h u = f h
pick_last y st below o (Pass n) f h u = u (n ++ o)
pick_last y st below o Stop f h u = tt

next_last : (b : ℕ) (x : Bool) (st : Stack) (o : Out) → Good st → NextLast (next b x k.End st o)
next_last b x (Done test) o h = tt
next_last b x (y ▹ st) o h =
    pick_last y st (next b x k.End st) o (act y b x k.End) (last y b x st) h.0
    (λ z. next_last b x st z h.1)

-- behind the end of the text, nothing is left to be completed
pub nothing_left : (b : ℕ) (x : Bool) (st w : Stack) (o p : Out) → Good st →
    next b x k.End st o ≡ Live w p → finish w ≡ []
nothing_left b x st w o p h e = subst NextLast e (next_last b x st o h)
