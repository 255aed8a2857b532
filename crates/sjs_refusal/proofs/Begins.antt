-- Where the machine stops, no script goes on so; and up to there some script does.
use Rattle.std.proofs.Common.{◌≡◌, ℕ, [], ◌∷◌, ◌++◌, Bool, refl}
use Rattle.std.proofs.Common.{Option, Some, None, sym, ◌∙◌, ap, subst}
use Rattle.sjs_syntax.specs.Tree.{StmtTrees}
use Rattle.sjs_grammar.specs.Grammar.{Reads}
use Rattle.sjs_grammar.specs.Kinds.{Kind}
use Rattle.sjs_grammar.specs.Tokens.{tok, Toks}
use Rattle.sjs_table.specs.Notes as note
use Rattle.sjs_table.specs.Notes.{Note, Out}
use Rattle.sjs_table.specs.Runs.{Stack, Done, ◌▹◌, run, steps, go_on, tested}
use Rattle.sjs_table.specs.Runs.{start, opened}
use Rattle.sjs_table.specs.Symbols.{Sym}
use Rattle.sjs_table.specs.Table.{Act, Take, Pass, Stop, act}
use Rattle.sjs_refusal.specs.Refusal.{Begins, Next, Dead, Live, pick, next, bind, behind}
use Rattle.sjs_complete.proofs.Complete.{complete}
use Rattle.sjs_sound.proofs.Sound.{reads}
use Rattle.sjs_refusal.specs.Refusal.{after}
use Rattle.sjs_refusal.proofs.Finish.{finishes}
use Rattle.sjs_refusal.proofs.Good.{finish, Good, Behind}
use Rattle.sjs_refusal.proofs.ExprKept.{Keeps}
use Rattle.sjs_refusal.proofs.Kept.{kept}

-- what a run makes of where the machine stands
abbrev on_live : (Stack → Out → Option Out) → Next → Option Out
on_live go Dead = None
on_live go (Live st o) = go st o

abbrev pub GoodNext : Next → Type 0
GoodNext Dead = Unit {0}
GoodNext (Live st o) = Good st

pick_good : (y : Sym) (st : Stack) (below : Out → Next) (o : Out) (c : Act) →
    Keeps y st c → Behind y (finish st) → Good st →
    ((z : Out) → GoodNext (below z)) → GoodNext (pick st below o c)
pick_good y st below o (Take ys) f h g u = f h g
pick_good y st below o (Pass n) f h g u = u (n ++ o)
pick_good y st below o Stop f h g u = tt

next_good : (b : ℕ) (x : Bool) (t : Kind) (st : Stack) (o : Out) →
    Good st → GoodNext (next b x t st o)
next_good b x t (Done test) o h = tt
next_good b x t (y ▹ st) o h =
    pick_good y st (next b x t st) o (act y b x t) (kept y b x t st) h.0 h.1
    (λ z. next_good b x t st z h.1)

pick_run : (go : Stack → Out → Option Out) (st : Stack) (q : Out → Option Out)
    (below : Out → Next) (o : Out) (c : Act) →
    ((z : Out) → q z ≡ on_live go (below z)) →
    go_on go st q o c ≡ on_live go (pick st below o c)
pick_run go st q below o (Take ys) e = refl
pick_run go st q below o (Pass n) e = e (n ++ o)
pick_run go st q below o Stop e = refl

next_run : (ts : Toks) (b : ℕ) (x : Bool) (t : Kind) (st : Stack) (o : Out) → Good st →
    run (tok b x t ∷ ts) st o ≡ on_live (run ts) (next b x t st o)
next_run ts b x t (Done test) o h = ap (λ c. tested c o) (h.1 (tok b x t) ts)
next_run ts b x t (y ▹ st) o h =
    pick_run (run ts) st (steps (run ts) (tok b x t ∷ ts) b x t st) (next b x t st) o (act y b x t)
    (λ z. next_run ts b x t st z h.1)

run_by : (ts more : Toks) (n : Next) → GoodNext n →
    ((st : Stack) (o : Out) → Good st →
    run (ts ++ more) st o ≡ on_live (run more) (behind ts st o)) →
    on_live (run (ts ++ more)) n ≡ on_live (run more) (bind n (behind ts))
run_by ts more Dead h ih = refl
run_by ts more (Live st o) h ih = ih st o h

run_behind : (ts more : Toks) (st : Stack) (o : Out) → Good st →
    run (ts ++ more) st o ≡ on_live (run more) (behind ts st o)
run_behind [] more st o h = refl
run_behind (tok b x t ∷ ts) more st o h =
    next_run (ts ++ more) b x t st o h
    ∙ run_by ts more (next b x t st o) (next_good b x t st o h) (run_behind ts more)

good_by : (ts : Toks) (n : Next) → GoodNext n →
    ((st : Stack) (o : Out) → Good st → GoodNext (behind ts st o)) →
    GoodNext (bind n (behind ts))
good_by ts Dead h ih = tt
good_by ts (Live st o) h ih = ih st o h

behind_good : (ts : Toks) (st : Stack) (o : Out) → Good st → GoodNext (behind ts st o)
behind_good [] st o h = h
behind_good (tok b x t ∷ ts) st o h =
    good_by ts (next b x t st o) (next_good b x t st o h) (behind_good ts)

start_good : Good start
start_good = (tt, (refl, (refl, λ t ts. refl)))

pub good_after : (ts : Toks) → GoodNext (after ts)
good_after ts = behind_good ts start opened start_good

-- tokens that the machine gets behind, and those that complete its stack, are read as a script
pub completed : (ts : Toks) (st : Stack) (o : Out) → after ts ≡ Live st o →
    (p : StmtTrees) × Reads (ts ++ finish st) p
completed ts st o e =
    let good : Good st = subst GoodNext e (good_after ts) in
    let f = finishes st good o in
    let h : run (ts ++ finish st) start opened ≡ Some f.0 =
    run_behind ts (finish st) start opened start_good
    ∙ ap (on_live (run (finish st))) e
    ∙ f.1 in
    let r = reads (ts ++ finish st) f.0 h in
    (r.0, r.1)

pub begins_so : (ts : Toks) (st : Stack) (o : Out) → after ts ≡ Live st o → Begins ts
begins_so ts st o e = let c = completed ts st o e in (finish st, c.0, c.1)

pub begins_not : (ts : Toks) → after ts ≡ Dead → Begins ts → ⊥
begins_not ts e b =
    let h : run (ts ++ b.0) start opened ≡ None =
    run_behind ts b.0 start opened start_good ∙ ap (on_live (run b.0)) e in
    let q : None ≡ Some (note.stmts b.1 opened) = sym h ∙ complete (ts ++ b.0) b.1 b.2 in
    cc

-- behind one more token

pub behind_append : (ts us : Toks) (st : Stack) (o : Out) →
    behind (ts ++ us) st o ≡ bind (behind ts st o) (behind us)
behind_append [] us st o = refl
behind_append (tok b x t ∷ ts) us st o = through (next b x t st o) (behind_append ts us)
  where
    through : (n : Next) →
        ((st : Stack) (o : Out) →
        behind (ts ++ us) st o ≡ bind (behind ts st o) (behind us)) →
        bind n (behind (ts ++ us)) ≡ bind (bind n (behind ts)) (behind us)
    through Dead ih = refl
    through (Live st o) ih = ih st o
