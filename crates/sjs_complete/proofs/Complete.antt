-- What the grammar reads, the machine takes, and it puts out the tree that was read.
use Rattle.std.proofs.Common.{◌≡◌, ℕ, suc, List, ◌∷◌, Bool, true, false, refl}
use Rattle.std.proofs.Common.{Some, ◌∙◌, ap, subst}
use Rattle.sjs_syntax.specs.declared.signs.OneSign.TheVariants as one
use Rattle.sjs_syntax.specs.declared.statements.Binding.{Binding}
use Rattle.sjs_syntax.specs.declared.statements.Named.{Named}
use Rattle.sjs_syntax.specs.Tree.{ExprTree, MaybeExpr, ExprTrees, MemberTrees, BodyTree}
use Rattle.sjs_syntax.specs.Tree.{PlaceTree, DeclaratorTrees, InitTree, StmtTree}
use Rattle.sjs_syntax.specs.Tree.{StmtTrees}
use Rattle.sjs_grammar.specs.Grammar as g
use Rattle.sjs_grammar.specs.Grammar.{named, value_of, EndsAt, NamesAt, ParamsAt, StmtsAt, StmtAt}
use Rattle.sjs_grammar.specs.Grammar.{DeclsAt, GivenAt, InitAt, TestAt, LastAt, CodeAt, BodyAt}
use Rattle.sjs_grammar.specs.Grammar.{ExprAt, LevelAt, UnAt, PlaceAt, CallAt, ArgsAt, SomeArgsAt}
use Rattle.sjs_grammar.specs.Grammar.{ItemsAt, MembersAt, Reads}
use Rattle.sjs_grammar.specs.Kinds as k
use Rattle.sjs_grammar.specs.Kinds.{Kind, Lit, word_of, key_of, level, needs_value}
use Rattle.sjs_grammar.specs.Tokens.{tok, Toks, begins}
use Rattle.sjs_table.specs.Notes as note
use Rattle.sjs_table.specs.Notes.{Note, Out}
use Rattle.sjs_table.specs.Runs.{Stack, Done, ◌▹◌, run, steps, go_on, onto, is_nil}
use Rattle.sjs_table.specs.Runs.{start, opened}
use Rattle.sjs_table.specs.Symbols as s
use Rattle.sjs_table.specs.Symbols.{Sym, Mode, Mark}
use Rattle.sjs_table.specs.Table.{Take, at_most, stop_if}
use Rattle.sjs_table.specs.Table.{for_rest}
use Rattle.sjs_complete.proofs.Probes.{any, any_true, probe, probe_true, level_is, stmt_is}
use Rattle.sjs_complete.proofs.Probes.{stmts_is, return_is, body_is, init_is, test_is, last_is}
use Rattle.sjs_complete.proofs.Probes.{args_is, items_is, after_name, open_is}
use Rattle.sjs_complete.proofs.Skips.{put, assigns, arrow_next, under, is_place}
use Rattle.sjs_complete.proofs.Skips.{lowers, itself, not_over, no_arrow, no_assign, no_under, six}
use Rattle.sjs_complete.proofs.Skips.{under_falls, tail_rises, tail_skips, sign_taken}
use Rattle.sjs_complete.proofs.Skips.{first_tails, then_skips, before_skips, ends_here, no_else}
use Rattle.sjs_complete.proofs.Skips.{no_decls, bare, c_ends, c_return, word_is, key_is}
use Rattle.sjs_complete.proofs.Params.{c_params, open_params, code_is, prim_is, place_is, word_put}

mutual
  pub c_stmts : {l : Bool} {ts r : Toks} {ss : StmtTrees} → StmtsAt l ts ss r →
      (st : Stack) (o : Out) → run ts (s.Stmts l ▹ st) o ≡ run r st (note.stmts ss o)
  c_stmts g.stmts_to_brace st o = refl
  c_stmts g.stmts_to_end st o = refl
  c_stmts (g.more_stmts {l} {ts} {m} {s = d} c ds) st o =
      stmts_is l ts st o (note.stmt d o) (c_stmt c any o ∙ any_true m _)
      ∙ c_stmt c (s.Put note.Stmt ▹ s.Stmts l ▹ st) o
      ∙ put m note.Stmt _ _
      ∙ c_stmts ds st _

  pub c_stmt : {l : Bool} {ts r : Toks} {d : StmtTree} → StmtAt l ts d r →
      (st : Stack) (o : Out) → run ts (s.Stmt l ▹ st) o ≡ run r st (note.stmt d o)
  c_stmt (g.block {l} {a} {ts = ts} {r = r} d) st o =
      put ts note.Stmts _ o
      ∙ c_stmts d (s.Want s.CloseBrace ▹ s.Put (note.Block a) ▹ st) _
      ∙ put r (note.Block a) _ _
  c_stmt (g.empty {a = a} {r = r}) st o = put r (note.Empty a) st o
  c_stmt (g.declare {a = a} {d = b} {ts = ts} {r = r} d e) st o =
      put ts note.Decls _ o
      ∙ c_decls d (s.End ▹ s.Put (note.Declare a b) ▹ st) _
      ∙ c_ends e _ _
      ∙ put r (note.Declare a b) _ _
  c_stmt (g.named_function {a = a} {b = b} {n = n} {ts = ts} d) st o =
      put ts (note.Named_ (named b n)) _ o ∙ c_code d (note.FunctionStmt a) st _
  c_stmt (g.if_ {l} {a} {r = r} d c h) st o =
      c_expr d (s.Want s.CloseRound ▹ s.Stmt l ▹ s.Else l a ▹ st) o
      ∙ c_stmt c (s.Else l a ▹ st) _
      ∙ no_else l a r st _ h
  c_stmt (g.if_else {l} {a} {r = r} d c f) st o =
      c_expr d (s.Want s.CloseRound ▹ s.Stmt l ▹ s.Else l a ▹ st) o
      ∙ c_stmt c (s.Else l a ▹ st) _
      ∙ c_stmt f (s.Put (note.IfElse a) ▹ st) _
      ∙ put r (note.IfElse a) _ _
  c_stmt (g.while_ {a = a} {r = r} d c) st o =
      c_expr d (s.Want s.CloseRound ▹ s.Stmt true ▹ s.Put (note.While a) ▹ st) o
      ∙ c_stmt c (s.Put (note.While a) ▹ st) _
      ∙ put r (note.While a) _ _
  c_stmt (g.do_while {a = a} {r = r} c d e) st o =
      c_stmt c
      (s.Want s.While ▹ s.Want s.OpenRound ▹ s.Expr ▹ s.Want s.CloseRound ▹ s.End
      ▹ s.Put (note.DoWhile a) ▹ st)
      o
      ∙ c_expr d (s.Want s.CloseRound ▹ s.End ▹ s.Put (note.DoWhile a) ▹ st) _
      ∙ c_ends e _ _
      ∙ put r (note.DoWhile a) _ _
  c_stmt (g.for_ {a = a} {r = r} i e f c) st o =
      c_init i a st o
      ∙ c_test e (s.Last ▹ s.Stmt true ▹ s.Put (note.For a) ▹ st) _
      ∙ c_last f (s.Stmt true ▹ s.Put (note.For a) ▹ st) _
      ∙ c_stmt c (s.Put (note.For a) ▹ st) _
      ∙ put r (note.For a) _ _
  c_stmt (g.for_in {a = a} {d = b} {q = q} {n = n} {ts = ts} {r = r} d c) st o =
      put ts (note.Named_ (named b n)) _ o
      ∙ c_expr d (s.Want s.CloseRound ▹ s.Stmt true ▹ s.Put (note.ForIn a q) ▹ st) _
      ∙ c_stmt c (s.Put (note.ForIn a q) ▹ st) _
      ∙ put r (note.ForIn a q) _ _
  c_stmt (g.break_ {a} {r = r} e) st o = c_ends e _ o ∙ put r (note.Break a) _ _
  c_stmt (g.continue_ {a} {r = r} e) st o = c_ends e _ o ∙ put r (note.Continue a) _ _
  c_stmt (g.return_ {a = a} e) st o = c_return e a st o
  c_stmt (g.return_value {a = a} {ts = ts} {m = m} {r = r} {e = f} h d e) st o =
      return_is a ts st o (note.expr f o) h (c_expr d any o ∙ any_true m _)
      ∙ c_expr d (s.End ▹ s.Put (note.ReturnValue a) ▹ st) o
      ∙ c_ends e _ _
      ∙ put r (note.ReturnValue a) _ _
  c_stmt (g.value {l} {ts} {m} {r} {e = f} h d e) st o =
      stmt_is l ts st o (note.expr f o) h (c_expr d any o ∙ any_true m _)
      ∙ c_expr d (s.End ▹ s.Put (note.Value (begins ts)) ▹ st) o
      ∙ c_ends e _ _
      ∙ put r (note.Value (begins ts)) _ _

  c_decls : {b : Binding} {ts r : Toks} {ds : DeclaratorTrees} → DeclsAt b ts ds r →
      (st : Stack) (o : Out) → run ts (s.Decl b ▹ st) o ≡ run r st (note.decls ds o)
  c_decls (g.last_decl {d = b} {a} {n = n} {ts = ts} {r = r} d h) st o =
      put ts (note.Named_ (named a n)) _ o
      ∙ c_given d (s.Decls b ▹ st) _
      ∙ no_decls b r st _ h
  c_decls (g.more_decls {d = b} {a} {n = n} {ts = ts} d ds) st o =
      put ts (note.Named_ (named a n)) _ o ∙ c_given d (s.Decls b ▹ st) _ ∙ c_decls ds st _

  c_given : {b : Binding} {ts r : Toks} {e : MaybeExpr} → GivenAt b ts e r →
      (st : Stack) (o : Out) → run ts (s.Given b ▹ st) o ≡ run r st (note.given e o)
  c_given (g.not_given {d = b} {r} h f) st o = bare b r st o h f
  c_given (g.given {r = r} d) st o = c_expr d (s.Put note.Given ▹ st) o ∙ put r note.Given _ _

  c_init : {ts r : Toks} {i : InitTree} → InitAt ts i r → (at : ℕ) (st : Stack) (o : Out) →
      run ts (s.Init at ▹ st) o ≡ run r (onto (for_rest at) st) (note.init i o)
  c_init (g.no_init {r = r}) at st o = put r note.NoInit _ o
  c_init (g.declare_init {d = b} d) at st o = c_for d at st o
  c_init (g.value_init {ts = ts} {r = r} {e = e} d) at st o =
      init_is at ts st o (note.expr e o) (c_expr d any o)
      ∙ c_expr d (s.Put note.ValueInit ▹ s.Want s.Semi ▹ onto (for_rest at) st) o

  -- declared names that come first in a `for`
  c_for : {b : Binding} {ts r : Toks} {ds : DeclaratorTrees} {a : ℕ} {x : Bool} →
      DeclsAt b ts ds (tok a x k.Semi ∷ r) → (at : ℕ) (st : Stack) (o : Out) →
      run ts (s.ForName at b ▹ st) o
      ≡ run r (onto (for_rest at) st) (note.DeclareInit b ∷ note.decls ds (note.Decls ∷ o))
  c_for (g.last_decl {d = b} {a} {n = n} d h) at st o = for_last d at a n st o
  c_for (g.more_decls {d = b} {a} {n = n} d ds) at st o =
      for_more d at a n st o
      ∙ c_decls ds (s.Put (note.DeclareInit b) ▹ s.Want s.Semi ▹ onto (for_rest at) st) _

  for_last : {b : Binding} {ts r : Toks} {e : MaybeExpr} {a : ℕ} {x : Bool} →
      GivenAt b ts e (tok a x k.Semi ∷ r) →
      (at c : ℕ) (n : List ℕ) (st : Stack) (o : Out) →
      run ts (s.ForNext at b c n ▹ st) o
      ≡ run r (onto (for_rest at) st)
      (note.DeclareInit b ∷ note.given e (note.Named_ (named c n) ∷ note.Decls ∷ o))
  for_last {b} {r = r} {a = a} {x = x} (g.not_given h f) at c n st o =
      ap
      (λ z.
      go_on (run r) st
      (steps (run r) (tok a x k.Semi ∷ r) a x k.Semi st)
      o
      (stop_if z
      (Take
      (s.Put note.Decls ∷ s.Put (note.Named_ (named c n)) ∷ s.Put note.Bare
      ∷ s.Put (note.DeclareInit b) ∷ for_rest at))))
      h
      ∙ put r note.Decls _ o
      ∙ put r (note.Named_ (named c n)) _ _
      ∙ put r note.Bare _ _
      ∙ put r (note.DeclareInit b) _ _
  for_last {b} (g.given {ts = ts} d) at c n st o =
      put ts note.Decls _ o
      ∙ put ts (note.Named_ (named c n)) _ _
      ∙ c_expr d
      (s.Put note.Given ▹ s.Decls b ▹ s.Put (note.DeclareInit b) ▹ s.Want s.Semi
      ▹ onto (for_rest at) st)
      _

  for_more : {b : Binding} {ts r : Toks} {e : MaybeExpr} {a : ℕ} {x : Bool} →
      GivenAt b ts e (tok a x k.Comma ∷ r) →
      (at c : ℕ) (n : List ℕ) (st : Stack) (o : Out) →
      run ts (s.ForNext at b c n ▹ st) o
      ≡ run r (s.Decl b ▹ s.Put (note.DeclareInit b) ▹ s.Want s.Semi ▹ onto (for_rest at) st)
      (note.given e (note.Named_ (named c n) ∷ note.Decls ∷ o))
  for_more {b} {r = r} {a = a} {x = x} (g.not_given h f) at c n st o =
      ap
      (λ z.
      go_on (run r) st
      (steps (run r) (tok a x k.Comma ∷ r) a x k.Comma st)
      o
      (stop_if z
      (Take
      (s.Put note.Decls ∷ s.Put (note.Named_ (named c n)) ∷ s.Put note.Bare ∷ s.Decl b
      ∷ s.Put (note.DeclareInit b) ∷ s.Want s.Semi ∷ for_rest at))))
      h
      ∙ put r note.Decls _ o
      ∙ put r (note.Named_ (named c n)) _ _
      ∙ put r note.Bare _ _
  for_more {b} (g.given {ts = ts} d) at c n st o =
      put ts note.Decls _ o
      ∙ put ts (note.Named_ (named c n)) _ _
      ∙ c_expr d
      (s.Put note.Given ▹ s.Decls b ▹ s.Put (note.DeclareInit b) ▹ s.Want s.Semi
      ▹ onto (for_rest at) st)
      _

  c_test : {ts r : Toks} {e : MaybeExpr} → TestAt ts e r → (st : Stack) (o : Out) →
      run ts (s.Test ▹ st) o ≡ run r st (note.maybe e o)
  c_test (g.no_test {r = r}) st o = put r note.Absent st o
  c_test (g.test {ts = ts} {e = e} d) st o =
      test_is ts st o (note.expr e o) (c_expr d any o)
      ∙ c_expr d (s.Put note.Present ▹ s.Want s.Semi ▹ st) o

  c_last : {ts r : Toks} {e : MaybeExpr} → LastAt ts e r → (st : Stack) (o : Out) →
      run ts (s.Last ▹ st) o ≡ run r st (note.maybe e o)
  c_last (g.no_last {r = r}) st o = put r note.Absent st o
  c_last (g.last {ts = ts} {e = e} d) st o =
      last_is ts st o (note.expr e o) (c_expr d any o)
      ∙ c_expr d (s.Put note.Present ▹ s.Want s.CloseRound ▹ st) o

  c_code : {ts r : Toks} {ns : List Named} {ss : StmtTrees} → CodeAt ts ns ss r →
      (n : Note) (st : Stack) (o : Out) →
      run ts (s.Code n ▹ st) o
      ≡ run r st (n ∷ note.stmts ss (note.Stmts ∷ note.params ns (note.Params ∷ o)))
  c_code (g.code {ts = ts} {m = m} {r = r} d b) n st o =
      put ts note.Params _ o
      ∙ c_params d
      (s.Want s.OpenBrace ▹ s.Put note.Stmts ▹ s.Stmts false ▹ s.Want s.CloseBrace ▹ s.Put n ▹ st)
      _
      ∙ put m note.Stmts _ _
      ∙ c_stmts b (s.Want s.CloseBrace ▹ s.Put n ▹ st) _
      ∙ put r n _ _

  c_body : {ts r : Toks} {f : BodyTree} → BodyAt ts f r → (at : ℕ) (st : Stack) (o : Out) →
      run ts (s.Body at ▹ st) o ≡ run r st (note.body f at o)
  c_body (g.block_body {ts = ts} {r = r} d) at st o =
      put ts note.Stmts _ o
      ∙ c_stmts d (s.Want s.CloseBrace ▹ s.Put (note.ArrowBlock at) ▹ st) _
      ∙ put r (note.ArrowBlock at) _ _
  c_body (g.value_body {ts} {r} {e} h d) at st o =
      body_is at ts st o (note.expr e o) h (c_expr d any o ∙ any_true r _)
      ∙ c_expr d (s.Put (note.Arrow at) ▹ st) o
      ∙ put r (note.Arrow at) _ _

  pub c_expr : {ts r : Toks} {e : ExprTree} → ExprAt ts e r → (st : Stack) (o : Out) →
      run ts (s.Expr ▹ st) o ≡ run r st (note.expr e o)
  c_expr (g.arrow_name {a = a} {n = n} {ts = ts} d) st o =
      put ts note.Params _ o ∙ put ts (note.Param (named a n)) _ _ ∙ c_body d a st _
  c_expr (g.arrow_round {a = a} d b) st o = open_params d a st o ∙ c_body b a st _
  c_expr (g.assigned {s = sign} {ts = ts} {r = r} d e) st o =
      s_place d refl st o
      ∙ c_expr e (s.Put (note.Assign (begins ts) sign) ▹ st) _
      ∙ put r (note.Assign (begins ts) sign) _ _
  c_expr (g.choose {ts = ts} {r = r} d e f) st o =
      s_level d refl refl st o
      ∙ c_expr e (s.Want s.Colon ▹ s.Expr ▹ s.Put (note.Choose (begins ts)) ▹ st) _
      ∙ c_expr f (s.Put (note.Choose (begins ts)) ▹ st) _
      ∙ put r (note.Choose (begins ts)) _ _
  c_expr (g.plain {ts} {r} d h) st o =
      s_level d (no_under 6 r h) (no_assign r h) st o ∙ ends_here (begins ts) r st _ h

  s_level : {n : ℕ} {ts r : Toks} {e : ExprTree} → LevelAt n ts e r →
      under n r ≡ false → assigns r ≡ false → (st : Stack) (o : Out) →
      run ts (s.Expr ▹ st) o
      ≡ run r (s.Tail 6 n (begins ts) ▹ s.Choose (begins ts) ▹ st) (note.expr e o)
  s_level (g.operand d) u h st o = s_un d h st o
  s_level (g.tighter {n} {ts} {r} d) u h st o =
      s_level d (under_falls n r u) h st o ∙ tail_rises 6 n (begins ts) r _ _ u
  s_level (g.pairs {n} {a} {x} {s = sign} {ts} {m} {r} {e} {f} q d c) u h st o =
      s_level d (subst (λ n. at_most (suc (level sign)) n ≡ false) q (not_over (level sign)))
      refl st o
      ∙ sign_taken 6 n (begins ts) sign q
      (subst (λ n. at_most (suc n) 6 ≡ true) q (six sign))
      a x m (s.Choose (begins ts) ▹ st) _
      ∙ o_level c n (itself n) (under_falls n r u)
      (s.Put (note.Pair (begins ts) sign) ▹ s.Tail 6 (suc n) (begins ts) ▹ s.Choose (begins ts)
      ▹ st)
      _
      ∙ tail_skips n (begins m) r (note.Pair (begins ts) sign) 6 (suc n) (begins ts) _ _ u
      ∙ put r (note.Pair (begins ts) sign) _ _

  s_un : {ts r : Toks} {e : ExprTree} → UnAt ts e r → assigns r ≡ false →
      (st : Stack) (o : Out) →
      run ts (s.Expr ▹ st) o
      ≡ run r (s.Tail 6 0 (begins ts) ▹ s.Choose (begins ts) ▹ st) (note.expr e o)
  s_un (g.not {a = a} {r = r} d) h st o =
      o_un d (s.Put (note.One a one.Not) ▹ s.Tail 6 0 a ▹ s.Choose a ▹ st) o
      ∙ put r (note.One a one.Not) _ _
  s_un (g.minus {a = a} {r = r} d) h st o =
      o_un d (s.Put (note.One a one.Minus) ▹ s.Tail 6 0 a ▹ s.Choose a ▹ st) o
      ∙ put r (note.One a one.Minus) _ _
  s_un (g.plus {a = a} {r = r} d) h st o =
      o_un d (s.Put (note.One a one.Plus) ▹ s.Tail 6 0 a ▹ s.Choose a ▹ st) o
      ∙ put r (note.One a one.Plus) _ _
  s_un (g.typeof {a = a} {r = r} d) h st o =
      o_un d (s.Put (note.One a one.TypeOf) ▹ s.Tail 6 0 a ▹ s.Choose a ▹ st) o
      ∙ put r (note.One a one.TypeOf) _ _
  s_un (g.step_before {a = a} {up = up} {ts = ts} {r = r} d c) h st o =
      m_place d s.Before (s.Put (note.Step a up true) ▹ s.Tail 6 0 a ▹ s.Choose a ▹ st) o
      ∙ before_skips (begins ts) r _ _ c
      ∙ put r (note.Step a up true) _ _
  s_un (g.step_behind {up = up} {ts = ts} {r = r} d) h st o =
      s_place d refl st o ∙ put r (note.Step (begins ts) up false) _ _
  s_un (g.alone {ts} {r} {e} d c) h st o =
      s_call d (no_arrow r h) st o ∙ first_tails (is_place e) (begins ts) r st _ c h

  s_place : {ts r : Toks} {p : PlaceTree} → PlaceAt ts p r → arrow_next r ≡ false →
      (st : Stack) (o : Out) →
      run ts (s.Expr ▹ st) o ≡ run r (s.After s.First true (begins ts) ▹ st) (note.place p o)
  s_place (g.name_place {a = a} {n = n} {r = r}) h st o = after_name a n r st o h
  s_place (g.member_place {b = b} {y = y} {t = t} {w = w} {ts = ts} {r = r} d q) h st o =
      s_call d refl st o ∙ word_is t w q b (begins ts) y r _ _
  s_place (g.index_place {ts = ts} {r = r} d f) h st o =
      s_call d refl st o
      ∙ c_expr f
      (s.Want s.CloseSquare ▹ s.Put (note.Index (begins ts)) ▹ s.After s.First true (begins ts)
      ▹ st)
      _
      ∙ put r (note.Index (begins ts)) _ _

  s_call : {ts r : Toks} {e : ExprTree} → CallAt ts e r → arrow_next r ≡ false →
      (st : Stack) (o : Out) →
      run ts (s.Expr ▹ st) o
      ≡ run r (s.After s.First (is_place e) (begins ts) ▹ st) (note.expr e o)
  s_call (g.number {r = r}) h st o = put r _ _ o
  s_call (g.text {r = r}) h st o = put r _ _ o
  s_call (g.word {a = a} {x = x} {lit = lit} {r = r}) h st o = word_put lit a s.First x r st o
  s_call (g.name {a = a} {n = n} {r = r}) h st o = after_name a n r st o h
  s_call (g.round {a = a} {ts = ts} {r = r} {e = e} d) h st o =
      open_is a ts st o (note.expr e o)
      (c_expr d (s.Want s.CloseRound ▹ probe) o ∙ probe_true r _ h)
      ∙ c_expr d (s.Want s.CloseRound ▹ s.Put (note.Round a) ▹ s.After s.First false a ▹ st) o
      ∙ put r (note.Round a) _ _
  s_call (g.list {a = a} {ts = ts} {r = r} d) h st o =
      put ts note.Exprs _ o
      ∙ c_items d (s.Put (note.List_ a) ▹ s.After s.First false a ▹ st) _
      ∙ put r (note.List_ a) _ _
  s_call (g.object {a = a} {ts = ts} {r = r} d) h st o =
      put ts note.Members _ o
      ∙ c_members d (s.Put (note.Object a) ▹ s.After s.First false a ▹ st) _
      ∙ put r (note.Object a) _ _
  s_call (g.function {a = a} d) h st o =
      code_is d a (s.After s.First false a ▹ st) o
      ∙ c_code d (note.Function a) (s.After s.First false a ▹ st) o
  s_call (g.function_named {a = a} {b = b} {n = n} {ts = ts} d) h st o =
      put ts (note.Named_ (named b n)) _ o
      ∙ c_code d (note.FunctionNamed a) (s.After s.First false a ▹ st) _
  s_call (g.member {b = b} {y = y} {t = t} {w = w} {ts = ts} {r = r} d q) h st o =
      s_call d refl st o ∙ word_is t w q b (begins ts) y r _ _
  s_call (g.index {ts = ts} {r = r} d f) h st o =
      s_call d refl st o
      ∙ c_expr f
      (s.Want s.CloseSquare ▹ s.Put (note.Index (begins ts)) ▹ s.After s.First true (begins ts)
      ▹ st)
      _
      ∙ put r (note.Index (begins ts)) _ _
  s_call (g.call {ts = ts} {m = m} {r = r} d f) h st o =
      s_call d refl st o
      ∙ put m note.Exprs _ _
      ∙ c_args f (s.Put (note.Call (begins ts)) ▹ s.After s.First false (begins ts) ▹ st) _
      ∙ put r (note.Call (begins ts)) _ _

  o_level : {j : ℕ} {ts r : Toks} {e : ExprTree} → LevelAt j ts e r →
      (n : ℕ) → at_most j n ≡ true → under j r ≡ false → (st : Stack) (o : Out) →
      run ts (s.Level n ▹ st) o ≡ run r (s.Tail n j (begins ts) ▹ st) (note.expr e o)
  o_level (g.operand {ts} d) n i u st o =
      level_is n ts st o ∙ o_un d (s.Tail n 0 (begins ts) ▹ st) o
  o_level (g.tighter {n = j} {ts} {r} d) n i u st o =
      o_level d n (lowers j n i) (under_falls j r u) st o ∙ tail_rises n j (begins ts) r _ _ u
  o_level (g.pairs {n = j} {a} {x} {s = sign} {ts} {m} {r} {e} {f} q d c) n i u st o =
      o_level d n i (subst (λ j. at_most (suc (level sign)) j ≡ false) q (not_over (level sign)))
      st o
      ∙ sign_taken n j (begins ts) sign q i a x m st _
      ∙ o_level c j (itself j) (under_falls j r u)
      (s.Put (note.Pair (begins ts) sign) ▹ s.Tail n (suc j) (begins ts) ▹ st)
      _
      ∙ tail_skips j (begins m) r (note.Pair (begins ts) sign) n (suc j) (begins ts) _ _ u
      ∙ put r (note.Pair (begins ts) sign) _ _

  o_un : {ts r : Toks} {e : ExprTree} → UnAt ts e r → (st : Stack) (o : Out) →
      run ts (s.Operand ▹ st) o ≡ run r st (note.expr e o)
  o_un (g.not {a = a} {r = r} d) st o =
      o_un d (s.Put (note.One a one.Not) ▹ st) o ∙ put r (note.One a one.Not) _ _
  o_un (g.minus {a = a} {r = r} d) st o =
      o_un d (s.Put (note.One a one.Minus) ▹ st) o ∙ put r (note.One a one.Minus) _ _
  o_un (g.plus {a = a} {r = r} d) st o =
      o_un d (s.Put (note.One a one.Plus) ▹ st) o ∙ put r (note.One a one.Plus) _ _
  o_un (g.typeof {a = a} {r = r} d) st o =
      o_un d (s.Put (note.One a one.TypeOf) ▹ st) o ∙ put r (note.One a one.TypeOf) _ _
  o_un (g.step_before {a = a} {up = up} {ts = ts} {r = r} d c) st o =
      m_place d s.Before (s.Put (note.Step a up true) ▹ st) o
      ∙ before_skips (begins ts) r _ _ c
      ∙ put r (note.Step a up true) _ _
  o_un (g.step_behind {up = up} {ts = ts} {r = r} d) st o =
      place_is d st o
      ∙ m_place d s.Then st o
      ∙ put r (note.Step (begins ts) up false) _ _
  o_un (g.alone {ts} {r} {e} d c) st o =
      prim_is d st o
      ∙ m_call d s.Then st o
      ∙ then_skips (is_place e) (begins ts) r st _ c

  m_place : {ts r : Toks} {p : PlaceTree} → PlaceAt ts p r →
      (m : Mode) (st : Stack) (o : Out) →
      run ts (s.Prim m ▹ st) o ≡ run r (s.After m true (begins ts) ▹ st) (note.place p o)
  m_place (g.name_place {r = r}) m st o = put r _ _ o
  m_place (g.member_place {b = b} {y = y} {t = t} {w = w} {ts = ts} {r = r} d q) m st o =
      m_call d m st o ∙ word_is t w q b (begins ts) y r _ _
  m_place (g.index_place {ts = ts} {r = r} d f) m st o =
      m_call d m st o
      ∙ c_expr f
      (s.Want s.CloseSquare ▹ s.Put (note.Index (begins ts)) ▹ s.After m true (begins ts) ▹ st)
      _
      ∙ put r (note.Index (begins ts)) _ _

  m_call : {ts r : Toks} {e : ExprTree} → CallAt ts e r →
      (m : Mode) (st : Stack) (o : Out) →
      run ts (s.Prim m ▹ st) o
      ≡ run r (s.After m (is_place e) (begins ts) ▹ st) (note.expr e o)
  m_call (g.number {r = r}) m st o = put r _ _ o
  m_call (g.text {r = r}) m st o = put r _ _ o
  m_call (g.word {a = a} {x = x} {lit = lit} {r = r}) m st o = word_put lit a m x r st o
  m_call (g.name {r = r}) m st o = put r _ _ o
  m_call (g.round {a = a} {r = r} d) m st o =
      c_expr d (s.Want s.CloseRound ▹ s.Put (note.Round a) ▹ s.After m false a ▹ st) o
      ∙ put r (note.Round a) _ _
  m_call (g.list {a = a} {ts = ts} {r = r} d) m st o =
      put ts note.Exprs _ o
      ∙ c_items d (s.Put (note.List_ a) ▹ s.After m false a ▹ st) _
      ∙ put r (note.List_ a) _ _
  m_call (g.object {a = a} {ts = ts} {r = r} d) m st o =
      put ts note.Members _ o
      ∙ c_members d (s.Put (note.Object a) ▹ s.After m false a ▹ st) _
      ∙ put r (note.Object a) _ _
  m_call (g.function {a = a} d) m st o =
      code_is d a (s.After m false a ▹ st) o
      ∙ c_code d (note.Function a) (s.After m false a ▹ st) o
  m_call (g.function_named {a = a} {b = b} {n = n} {ts = ts} d) m st o =
      put ts (note.Named_ (named b n)) _ o
      ∙ c_code d (note.FunctionNamed a) (s.After m false a ▹ st) _
  m_call (g.member {b = b} {y = y} {t = t} {w = w} {ts = ts} {r = r} d q) m st o =
      m_call d m st o ∙ word_is t w q b (begins ts) y r _ _
  m_call (g.index {ts = ts} {r = r} d f) m st o =
      m_call d m st o
      ∙ c_expr f
      (s.Want s.CloseSquare ▹ s.Put (note.Index (begins ts)) ▹ s.After m true (begins ts) ▹ st)
      _
      ∙ put r (note.Index (begins ts)) _ _
  m_call (g.call {ts = ts} {m = mid} {r = r} d f) m st o =
      m_call d m st o
      ∙ put mid note.Exprs _ _
      ∙ c_args f (s.Put (note.Call (begins ts)) ▹ s.After m false (begins ts) ▹ st) _
      ∙ put r (note.Call (begins ts)) _ _

  c_args : {ts r : Toks} {es : ExprTrees} → ArgsAt ts es r → (st : Stack) (o : Out) →
      run ts (s.Args ▹ st) o ≡ run r st (note.exprs es o)
  c_args g.no_args st o = refl
  c_args (g.args d) st o = first_arg d st o ∙ c_some d st o

  first_arg : {ts r : Toks} {es : ExprTrees} → SomeArgsAt ts es r → (st : Stack) (o : Out) →
      run ts (s.Args ▹ st) o ≡ run ts (s.Expr ▹ s.Put note.Expr ▹ s.MoreArgs ▹ st) o
  first_arg (g.last_arg {ts = ts} {e = e} d) st o =
      args_is ts st o (note.expr e o) (c_expr d any o)
  first_arg (g.more_args {ts = ts} {e = e} d ds) st o =
      args_is ts st o (note.expr e o) (c_expr d any o)

  c_some : {ts r : Toks} {es : ExprTrees} → SomeArgsAt ts es r → (st : Stack) (o : Out) →
      run ts (s.Expr ▹ s.Put note.Expr ▹ s.MoreArgs ▹ st) o ≡ run r st (note.exprs es o)
  c_some (g.last_arg d) st o = c_expr d (s.Put note.Expr ▹ s.MoreArgs ▹ st) o
  c_some (g.more_args d ds) st o =
      c_expr d (s.Put note.Expr ▹ s.MoreArgs ▹ st) o ∙ c_some ds st _

  c_items : {ts r : Toks} {es : ExprTrees} → ItemsAt ts es r → (st : Stack) (o : Out) →
      run ts (s.Items ▹ st) o ≡ run r st (note.exprs es o)
  c_items g.no_items st o = refl
  c_items (g.last_item {ts = ts} {e = e} d) st o =
      items_is ts st o (note.expr e o) (c_expr d any o)
      ∙ c_expr d (s.Put note.Expr ▹ s.MoreItems ▹ st) o
  c_items (g.more_items {ts = ts} {e = e} d ds) st o =
      items_is ts st o (note.expr e o) (c_expr d any o)
      ∙ c_expr d (s.Put note.Expr ▹ s.MoreItems ▹ st) o
      ∙ c_items ds st _

  c_members : {ts r : Toks} {ms : MemberTrees} → MembersAt ts ms r → (st : Stack) (o : Out) →
      run ts (s.Members ▹ st) o ≡ run r st (note.members ms o)
  c_members g.no_members st o = refl
  c_members (g.last_member {a} {b} {x = x} {y} {t = t} {w = w} {ts = ts} q d) st o =
      key_is t w q a x (tok b y k.Colon ∷ ts) st o ∙ c_expr d (s.Put note.Member_
      ▹ s.MoreMembers ▹ st) _
  c_members (g.more_members {a} {b} {x = x} {y} {t = t} {w = w} {ts = ts} q d ds) st o =
      key_is t w q a x (tok b y k.Colon ∷ ts) st o
      ∙ c_expr d (s.Put note.Member_ ▹ s.MoreMembers ▹ st) _
      ∙ c_members ds st _

-- every script is taken, and put out
pub complete : (ts : Toks) (p : StmtTrees) → Reads ts p →
    run ts start opened ≡ Some (note.stmts p opened)
complete ts p d = c_stmts d.2 (s.Want s.End ▹ Done is_nil) opened
