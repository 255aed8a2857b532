-- What is read is formed: each constant has a value, each `break` and `continue` has its loop, and
-- numbers are in range.
use Rattle.std.proofs.Common.{◌≡◌, ℕ, ◌≤◌, pos, List, Bool, false, refl, arith}
use Rattle.std.specs.Prelude.{negsuc, ◌≤ℤ◌}
use Rattle.sjs_syntax.specs.declared.statements.Binding.{Binding}
use Rattle.sjs_syntax.specs.declared.statements.Binding.TheVariants as binding
use Rattle.sjs_syntax.specs.declared.statements.Named.{Named}
use Rattle.sjs_syntax.specs.Formed.{IsFormedExpr, IsFormedMaybe, AreFormedExprs, AreFormedMembers}
use Rattle.sjs_syntax.specs.Formed.{IsFormedBody, IsFormedPlace, IsGiven, AreFormedDeclarators}
use Rattle.sjs_syntax.specs.Formed.{IsFormedInit, IsFormedStmt, AreFormedStmts, IsFormed}
use Rattle.sjs_syntax.specs.Tree as tree
use Rattle.sjs_syntax.specs.Tree.{ExprTree, MaybeExpr, ExprTrees, MemberTrees, BodyTree}
use Rattle.sjs_syntax.specs.Tree.{PlaceTree, DeclaratorTrees, InitTree, StmtTree, StmtTrees}
use Rattle.sjs_grammar.specs.Grammar as g
use Rattle.sjs_grammar.specs.Grammar.{value_of, EndsAt, NamesAt, ParamsAt, StmtsAt, StmtAt, DeclsAt}
use Rattle.sjs_grammar.specs.Grammar.{GivenAt, InitAt, TestAt, LastAt, CodeAt, BodyAt, ExprAt}
use Rattle.sjs_grammar.specs.Grammar.{LevelAt, UnAt, PlaceAt, CallAt, ArgsAt, SomeArgsAt, ItemsAt}
use Rattle.sjs_grammar.specs.Grammar.{MembersAt, Reads}
use Rattle.sjs_grammar.specs.InRange.{AreInRange}
use Rattle.sjs_grammar.specs.Kinds as k
use Rattle.sjs_grammar.specs.Kinds.{Lit, needs_value}
use Rattle.sjs_grammar.specs.Tokens.{Toks}

f_ends : {ts r : Toks} → EndsAt ts r → AreInRange ts → AreInRange r
f_ends g.semi h = h.1
f_ends g.brace h = h
f_ends g.end h = h
f_ends (g.line e) h = h

f_names : {ts r : Toks} {ns : List Named} → NamesAt ts ns r → AreInRange ts → AreInRange r
f_names g.last_name h = h.1
f_names (g.more_names d) h = f_names d h.1.1

f_params : {ts r : Toks} {ns : List Named} → ParamsAt ts ns r → AreInRange ts → AreInRange r
f_params g.no_params h = h.1
f_params (g.params d) h = (f_names d h).1

-- a binding with a value
is_given : (d : Binding) (e : ExprTree) → IsGiven d (tree.some_expr e)
is_given binding.Var e = tt
is_given binding.Let e = tt
is_given binding.Const e = tt

is_bare : (d : Binding) → needs_value d ≡ false → IsGiven d tree.no_expr
is_bare binding.Var h = tt
is_bare binding.Let h = tt
is_bare binding.Const h = cc

is_value : (a : ℕ) (lit : Lit) → IsFormedExpr (value_of a lit)
unfolding IsFormedExpr
is_value a k.True = tt
is_value a k.False = tt
is_value a k.Null = tt
is_value a k.Undefined = tt

number_in : (n : ℕ) → n ≤ 9007199254740991 →
    (negsuc 9007199254740990 ≤ℤ pos n) × (pos n ≤ℤ pos 9007199254740991)
number_in n h = grind arith

mutual
  unfolding IsFormedExpr

  f_stmts : {l : Bool} {ts r : Toks} {ss : StmtTrees} → StmtsAt l ts ss r →
      AreInRange ts → AreFormedStmts l ss × AreInRange r
  f_stmts g.stmts_to_brace h = (tt, h)
  f_stmts g.stmts_to_end h = (tt, h)
  f_stmts (g.more_stmts d ds) h =
      let u = f_stmt d h in let v = f_stmts ds u.1 in ((u.0, v.0), v.1)

  f_stmt : {l : Bool} {ts r : Toks} {d : StmtTree} → StmtAt l ts d r →
      AreInRange ts → IsFormedStmt l d × AreInRange r
  f_stmt (g.block d) h = let u = f_stmts d h.1 in (u.0, u.1.1)
  f_stmt g.empty h = (tt, h.1)
  f_stmt (g.declare d e) h = let u = f_decls d h.1 in (u.0, f_ends e u.1)
  f_stmt (g.named_function d) h = f_code d h.1.1
  f_stmt (g.if_ d c n) h =
      let u = f_expr d h.1.1 in let v = f_stmt c u.1.1 in ((u.0, v.0, tt), v.1)
  f_stmt (g.if_else d c e) h =
      let u = f_expr d h.1.1 in
      let v = f_stmt c u.1.1 in
      let w = f_stmt e v.1.1 in
      ((u.0, v.0, w.0), w.1)
  f_stmt (g.while_ d c) h =
      let u = f_expr d h.1.1 in let v = f_stmt c u.1.1 in ((u.0, v.0), v.1)
  f_stmt (g.do_while c d e) h =
      let u = f_stmt c h.1 in let v = f_expr d u.1.1.1 in ((u.0, v.0), f_ends e v.1.1)
  f_stmt (g.for_ i e f c) h =
      let u = f_init i h.1.1 in
      let v = f_test e u.1 in
      let w = f_last f v.1 in
      let z = f_stmt c w.1 in
      ((u.0, v.0, w.0, z.0), z.1)
  f_stmt (g.for_in d c) h =
      let u = f_expr d h.1.1.1.1.1 in let v = f_stmt c u.1.1 in ((u.0, v.0), v.1)
  f_stmt (g.break_ e) h = (refl, f_ends e h.1)
  f_stmt (g.continue_ e) h = (refl, f_ends e h.1)
  f_stmt (g.return_ e) h = (tt, f_ends e h.1)
  f_stmt (g.return_value b d e) h = let u = f_expr d h.1 in (u.0, f_ends e u.1)
  f_stmt (g.value b d e) h = let u = f_expr d h in (u.0, f_ends e u.1)

  f_decls : {b : Binding} {ts r : Toks} {ds : DeclaratorTrees} → DeclsAt b ts ds r →
      AreInRange ts → AreFormedDeclarators b ds × AreInRange r
  f_decls (g.last_decl d c) h =
      let u = f_given d h.1 in ((u.0.0, u.0.1, tt), u.1)
  f_decls (g.more_decls d ds) h =
      let u = f_given d h.1 in let v = f_decls ds u.1.1 in ((u.0.0, u.0.1, v.0), v.1)

  f_given : {b : Binding} {ts r : Toks} {e : MaybeExpr} → GivenAt b ts e r →
      AreInRange ts → (IsGiven b e × IsFormedMaybe e) × AreInRange r
  f_given (g.not_given {d = b} n s) h = ((is_bare b n, tt), h)
  f_given (g.given {d = b} {e = e} d) h = let u = f_expr d h.1 in ((is_given b e, u.0), u.1)

  f_init : {ts r : Toks} {i : InitTree} → InitAt ts i r →
      AreInRange ts → IsFormedInit i × AreInRange r
  f_init g.no_init h = (tt, h.1)
  f_init (g.declare_init d) h = let u = f_decls d h.1 in (u.0, u.1.1)
  f_init (g.value_init d) h = let u = f_expr d h in (u.0, u.1.1)

  f_test : {ts r : Toks} {e : MaybeExpr} → TestAt ts e r →
      AreInRange ts → IsFormedMaybe e × AreInRange r
  f_test g.no_test h = (tt, h.1)
  f_test (g.test d) h = let u = f_expr d h in (u.0, u.1.1)

  f_last : {ts r : Toks} {e : MaybeExpr} → LastAt ts e r →
      AreInRange ts → IsFormedMaybe e × AreInRange r
  f_last g.no_last h = (tt, h.1)
  f_last (g.last d) h = let u = f_expr d h in (u.0, u.1.1)

  f_code : {ts r : Toks} {ns : List Named} {ss : StmtTrees} → CodeAt ts ns ss r →
      AreInRange ts → AreFormedStmts false ss × AreInRange r
  f_code (g.code d b) h =
      let u = f_params d h.1 in let v = f_stmts b u.1 in (v.0, v.1.1)

  f_body : {ts r : Toks} {f : BodyTree} → BodyAt ts f r →
      AreInRange ts → IsFormedBody f × AreInRange r
  f_body (g.block_body d) h = let u = f_stmts d h.1 in (u.0, u.1.1)
  f_body (g.value_body b d) h = f_expr d h

  f_expr : {ts r : Toks} {e : ExprTree} → ExprAt ts e r →
      AreInRange ts → IsFormedExpr e × AreInRange r
  f_expr (g.arrow_name d) h = f_body d h.1.1
  f_expr (g.arrow_round d b) h = f_body b (f_params d h.1).1
  f_expr (g.assigned d e) h =
      let u = f_place d h in let v = f_expr e u.1.1 in ((u.0, v.0), v.1)
  f_expr (g.choose d e f) h =
      let u = f_level d h in
      let v = f_expr e u.1.1 in
      let w = f_expr f v.1.1 in
      ((u.0, v.0, w.0), w.1)
  f_expr (g.plain d n) h = f_level d h

  f_level : {n : ℕ} {ts r : Toks} {e : ExprTree} → LevelAt n ts e r →
      AreInRange ts → IsFormedExpr e × AreInRange r
  f_level (g.operand d) h = f_un d h
  f_level (g.tighter d) h = f_level d h
  f_level (g.pairs q d e) h =
      let u = f_level d h in let v = f_level e u.1.1 in ((u.0, v.0), v.1)

  f_un : {ts r : Toks} {e : ExprTree} → UnAt ts e r →
      AreInRange ts → IsFormedExpr e × AreInRange r
  f_un (g.not d) h = f_un d h.1
  f_un (g.minus d) h = f_un d h.1
  f_un (g.plus d) h = f_un d h.1
  f_un (g.typeof d) h = f_un d h.1
  f_un (g.step_before d c) h = f_place d h.1
  f_un (g.step_behind d) h = let u = f_place d h in (u.0, u.1.1)
  f_un (g.alone d c) h = f_call d h

  f_place : {ts r : Toks} {p : PlaceTree} → PlaceAt ts p r →
      AreInRange ts → IsFormedPlace p × AreInRange r
  f_place g.name_place h = (tt, h.1)
  f_place (g.member_place d w) h = let u = f_call d h in (u.0, u.1.1.1)
  f_place (g.index_place d e) h =
      let u = f_call d h in let v = f_expr e u.1.1 in ((u.0, v.0), v.1.1)

  f_call : {ts r : Toks} {e : ExprTree} → CallAt ts e r →
      AreInRange ts → IsFormedExpr e × AreInRange r
  f_call (g.number {n = n}) h = (number_in n h.0, h.1)
  f_call g.text h = (tt, h.1)
  f_call (g.word {a = a} {lit = lit}) h = (is_value a lit, h.1)
  f_call g.name h = (tt, h.1)
  f_call (g.round d) h = let u = f_expr d h.1 in (u.0, u.1.1)
  f_call (g.list d) h = f_items d h.1
  f_call (g.object d) h = f_members d h.1
  f_call (g.function d) h = f_code d h.1
  f_call (g.function_named d) h = f_code d h.1.1
  f_call (g.member d w) h = let u = f_call d h in (u.0, u.1.1.1)
  f_call (g.index d e) h =
      let u = f_call d h in let v = f_expr e u.1.1 in ((u.0, v.0), v.1.1)
  f_call (g.call d e) h =
      let u = f_call d h in let v = f_args e u.1.1 in ((u.0, v.0), v.1)

  f_args : {ts r : Toks} {es : ExprTrees} → ArgsAt ts es r →
      AreInRange ts → AreFormedExprs es × AreInRange r
  f_args g.no_args h = (tt, h.1)
  f_args (g.args d) h = f_some d h

  f_some : {ts r : Toks} {es : ExprTrees} → SomeArgsAt ts es r →
      AreInRange ts → AreFormedExprs es × AreInRange r
  f_some (g.last_arg d) h = let u = f_expr d h in ((u.0, tt), u.1.1)
  f_some (g.more_args d ds) h =
      let u = f_expr d h in let v = f_some ds u.1.1 in ((u.0, v.0), v.1)

  f_items : {ts r : Toks} {es : ExprTrees} → ItemsAt ts es r →
      AreInRange ts → AreFormedExprs es × AreInRange r
  f_items g.no_items h = (tt, h.1)
  f_items (g.last_item d) h = let u = f_expr d h in ((u.0, tt), u.1.1)
  f_items (g.more_items d ds) h =
      let u = f_expr d h in let v = f_items ds u.1.1 in ((u.0, v.0), v.1)

  f_members : {ts r : Toks} {ms : MemberTrees} → MembersAt ts ms r →
      AreInRange ts → AreFormedMembers ms × AreInRange r
  f_members g.no_members h = (tt, h.1)
  f_members (g.last_member w d) h = let u = f_expr d h.1.1 in ((u.0, tt), u.1.1)
  f_members (g.more_members w d ds) h =
      let u = f_expr d h.1.1 in let v = f_members ds u.1.1 in ((u.0, v.0), v.1)

-- a script that is read is formed
pub formed : (ts : Toks) (p : StmtTrees) → AreInRange ts → Reads ts p → IsFormed p
formed ts p h d = (f_stmts d.2 h).0
