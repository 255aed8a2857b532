-- What the machine takes and puts out, the grammar reads.
use Rattle.std.proofs.Common.{◌≡◌, ℕ, [], ◌∷◌, ◌++◌, Bool, true, false, refl}
use Rattle.std.proofs.Common.{Option, Some, subst}
use Rattle.sjs_syntax.specs.Tree.{StmtTrees}
use Rattle.sjs_grammar.specs.Grammar.{StmtsAt}
use Rattle.sjs_grammar.specs.Grammar.{Reads}
use Rattle.sjs_grammar.specs.Kinds as k
use Rattle.sjs_grammar.specs.Kinds.{Kind, Lit, word_of, key_of, level, needs_value}
use Rattle.sjs_grammar.specs.Tokens.{tok, Toks}
use Rattle.sjs_table.specs.Notes as note
use Rattle.sjs_table.specs.Notes.{Note, Out}
use Rattle.sjs_table.specs.Runs.{Stack, Done, ◌▹◌, run, steps, go_on, tested, onto, at_end, is_nil}
use Rattle.sjs_table.specs.Runs.{start, opened}
use Rattle.sjs_table.specs.Symbols as s
use Rattle.sjs_table.specs.Symbols.{Sym, Mode, Mark}
use Rattle.sjs_table.specs.Table.{Act, Take, Pass, Stop, act}
use Rattle.sjs_sound.proofs.Meanings as m
use Rattle.sjs_sound.proofs.Meanings.{M, Spells, cons, Got, Placed, Local, Row, NoPass, unput}
use Rattle.sjs_sound.proofs.Meanings.{then_row, like_row, first_row, twice_row}
use Rattle.sjs_sound.proofs.Meanings.{done}
use Rattle.sjs_sound.proofs.OperandRows.{l_prim, l_operand, l_level, l_expr}
use Rattle.sjs_sound.proofs.ExprRows.{l_after, l_tail, l_choose}
use Rattle.sjs_sound.proofs.ListRows.{l_after_name, l_open, l_open_name, l_closed, l_body, l_code}
use Rattle.sjs_sound.proofs.ListRows.{l_function, l_names, l_more_names, l_params, l_args}
use Rattle.sjs_sound.proofs.ListRows.{l_more_args, l_items, l_more_items, l_members}
use Rattle.sjs_sound.proofs.ListRows.{l_more_members, l_word}
use Rattle.sjs_sound.proofs.StmtRows.{l_want, l_name, l_stmt, l_stmts, l_else, l_end, l_return}
use Rattle.sjs_sound.proofs.StmtRows.{l_decl, l_given, l_decls}
use Rattle.sjs_sound.proofs.ForRows.{l_init, l_for_name, l_for_next, l_test, l_last}

-- every row says the truth
row : (y : Sym) (b : ℕ) (x : Bool) (t : Kind) (ts : Toks) (st : Stack) (o q : Out) →
    Row y b x t ts st o q
row (s.Put n) b x t ts st o q = m.put_
row (s.Want w) b x t ts st o q = l_want w t b x ts st o q
row s.Name b x t ts st o q = l_name t b x ts st o q
row (s.Stmts l) b x t ts st o q = l_stmts t l b x ts st o q
row (s.Stmt l) b x t ts st o q = l_stmt t l b x ts st o q
row (s.Else l a) b x t ts st o q = l_else t l a b x ts st o q
row s.End b x t ts st o q = l_end t b x ts st o q
row (s.Return a) b x t ts st o q = l_return t a b x ts st o q
row (s.Decl d) b x t ts st o q = l_decl t d b x ts st o q
row (s.Given d) b x t ts st o q = l_given t d b x ts st o q
row (s.Decls d) b x t ts st o q = l_decls t d b x ts st o q
row (s.Init a) b x t ts st o q = l_init t a b x ts st o q
row (s.ForName a d) b x t ts st o q = l_for_name t a d b x ts st o q
row (s.ForNext a d c n) b x t ts st o q = l_for_next t a d c n b x ts st o q
row s.Test b x t ts st o q = l_test t b x ts st o q
row s.Last b x t ts st o q = l_last t b x ts st o q
row s.Expr b x t ts st o q = l_expr t b x ts st o q
row s.Operand b x t ts st o q = l_operand t b x ts st o q
row (s.Level n) b x t ts st o q = l_level n t b x ts st o q
row (s.Prim mode) b x t ts st o q = l_prim t mode b x ts st o q
row (s.After mode p a) b x t ts st o q = l_after t mode p a b x ts st o q
row (s.Tail n j a) b x t ts st o q = l_tail t n j a b x ts st o q
row (s.Choose a) b x t ts st o q = l_choose t a b x ts st o q
row (s.AfterName a n) b x t ts st o q = l_after_name t a n b x ts st o q
row (s.Open a) b x t ts st o q = l_open t a b x ts st o q
row (s.OpenName a c n) b x t ts st o q = l_open_name t a c n b x ts st o q
row (s.Closed a c n) b x t ts st o q = l_closed t a c n b x ts st o q
row (s.Body a) b x t ts st o q = l_body t a b x ts st o q
row (s.Function a) b x t ts st o q = l_function t a b x ts st o q
row (s.Code n) b x t ts st o q = l_code t n b x ts st o q
row s.Names b x t ts st o q = l_names t b x ts st o q
row s.MoreNames b x t ts st o q = l_more_names t b x ts st o q
row s.Params b x t ts st o q = l_params t b x ts st o q
row s.Args b x t ts st o q = l_args t b x ts st o q
row s.MoreArgs b x t ts st o q = l_more_args t b x ts st o q
row s.Items b x t ts st o q = l_items t b x ts st o q
row s.MoreItems b x t ts st o q = l_more_items t b x ts st o q
row s.Members b x t ts st o q = l_members t b x ts st o q
row s.MoreMembers b x t ts st o q = l_more_members t b x ts st o q
row (s.Word a) b x t ts st o q = l_word t a b x ts st o q

by_act : (y : Sym) (b : ℕ) (x : Bool) (t : Kind) (ts : Toks) (st : Stack)
    (below : Out → Option Out) (o q : Out) →
    ((z : Out) → below z ≡ Some q → Spells st (tok b x t ∷ ts) z q) →
    ((w : Stack) → run ts w o ≡ Some q → Spells w ts o q) →
    (c : Act) → Local y b x t ts st o q c → go_on (run ts) st below o c ≡ Some q →
    Spells (y ▹ st) (tok b x t ∷ ts) o q
by_act y b x t ts st below o q under ih (Take ys) f h = f (ih (onto ys st) h)
by_act y b x t ts st below o q under ih (Pass n) d h = cons d (under (n ++ o) h)
by_act y b x t ts st below o q under ih Stop d h = cc

tested_done : (test : Toks → Bool) (ts : Toks) (c : Bool) (o q : Out) →
    test ts ≡ c → tested c o ≡ Some q → Spells (Done test) ts o q
tested_done test ts true o q e h =
    let same : o ≡ q = cc in subst (λ z. Spells (Done test) ts o z) same (done e)
tested_done test ts false o q e h = cc

sound_steps : (ts : Toks) (b : ℕ) (x : Bool) (t : Kind) (q : Out) →
    ((st : Stack) (o : Out) → run ts st o ≡ Some q → Spells st ts o q) →
    (st : Stack) (o : Out) → steps (run ts) (tok b x t ∷ ts) b x t st o ≡ Some q →
    Spells st (tok b x t ∷ ts) o q
sound_steps ts b x t q ih (Done test) o h =
    tested_done test (tok b x t ∷ ts) (test (tok b x t ∷ ts)) o q refl h
sound_steps ts b x t q ih (y ▹ st) o h =
    by_act y b x t ts st (steps (run ts) (tok b x t ∷ ts) b x t st) o q
    (sound_steps ts b x t q ih st) (λ w. ih w o) (act y b x t) (row y b x t ts st o q) h

sound_end : (st : Stack) (o q : Out) → at_end st o ≡ Some q → Spells st [] o q
sound_end (Done test) o q h = tested_done test [] (test []) o q refl h
sound_end (s.Put n ▹ st) o q h = cons m.put_ (sound_end st (n ∷ o) q h)
sound_end st o q h = cc

pub sound : (ts : Toks) (st : Stack) (o q : Out) → run ts st o ≡ Some q → Spells st ts o q
sound [] st o q h = sound_end st o q h
sound (tok b x t ∷ ts) st o q h = sound_steps ts b x t q (λ w z. sound ts w z q) st o h

nil : (ts : Toks) → is_nil ts ≡ true → ts ≡ []
nil [] h = refl
nil (t ∷ ts) h = cc

whole_of : {ts : Toks} {o q : Out} → Spells start ts o q →
    (p : StmtTrees) × Reads ts p × (q ≡ note.stmts p o)
whole_of {ts}
    (cons (m.stmts_ {ss = p} d) (cons (m.want_ {a = a} {x = x} {r = r}) (done h))) =
    (p, (a, x, subst (λ r. StmtsAt false ts p (tok a x k.End ∷ r)) (nil r h) d), refl)

-- what is taken is a script, and it is what was put out
pub reads : (ts : Toks) (q : Out) → run ts start opened ≡ Some q →
    (p : StmtTrees) × Reads ts p × (q ≡ note.stmts p opened)
reads ts q h = whole_of (sound ts start opened q h)
