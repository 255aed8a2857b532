-- The notes of a tree build that tree.
use Rattle.std.proofs.Common.{◌≡◌, ℕ, List, [], ◌∷◌, ◌++◌, Some, None, refl, sym, ◌∙◌, ap}
use Rattle.std.proofs.Common.{append_assoc, append-nil}
use Rattle.sjs_syntax.specs.declared.statements.Named.{Named}
use Rattle.sjs_syntax.specs.Tree as tree
use Rattle.sjs_syntax.specs.Tree.{ExprTree, MaybeExpr, ExprTrees, MemberTrees, BodyTree}
use Rattle.sjs_syntax.specs.Tree.{PlaceTree, DeclaratorTrees, InitTree, StmtTree, MaybeStmt}
use Rattle.sjs_syntax.specs.Tree.{StmtTrees}
use Rattle.sjs_table.specs.Built.{VExpr, VExprs, VKey, VMembers, VNamed, VNames, VDecls}
use Rattle.sjs_table.specs.Built.{VInit, VMaybe, VStmt, VStmts, Vals, add_exprs, add_members}
use Rattle.sjs_table.specs.Built.{add_decls, add_stmts, place_of, apply, built}
use Rattle.sjs_table.specs.Notes as note
use Rattle.sjs_table.specs.Notes.{Out}
use Rattle.sjs_table.specs.Runs.{opened}

-- lists with a list behind them

exprs_none : (es : ExprTrees) → add_exprs es tree.no_exprs ≡ es
exprs_none tree.no_exprs = refl
exprs_none (tree.more_exprs e es) = ap (tree.more_exprs e) (exprs_none es)

exprs_assoc : (es fs gs : ExprTrees) →
    add_exprs (add_exprs es fs) gs ≡ add_exprs es (add_exprs fs gs)
exprs_assoc tree.no_exprs fs gs = refl
exprs_assoc (tree.more_exprs e es) fs gs = ap (tree.more_exprs e) (exprs_assoc es fs gs)

members_none : (ms : MemberTrees) → add_members ms tree.no_members ≡ ms
members_none tree.no_members = refl
members_none (tree.more_members a key e ms) = ap (tree.more_members a key e) (members_none ms)

members_assoc : (ms ns os : MemberTrees) →
    add_members (add_members ms ns) os ≡ add_members ms (add_members ns os)
members_assoc tree.no_members ns os = refl
members_assoc (tree.more_members a key e ms) ns os =
    ap (tree.more_members a key e) (members_assoc ms ns os)

decls_none : (ds : DeclaratorTrees) → add_decls ds tree.no_declarators ≡ ds
decls_none tree.no_declarators = refl
decls_none (tree.more_declarators n e ds) = ap (tree.more_declarators n e) (decls_none ds)

decls_assoc : (ds es fs : DeclaratorTrees) →
    add_decls (add_decls ds es) fs ≡ add_decls ds (add_decls es fs)
decls_assoc tree.no_declarators es fs = refl
decls_assoc (tree.more_declarators n e ds) es fs =
    ap (tree.more_declarators n e) (decls_assoc ds es fs)

stmts_none : (ss : StmtTrees) → add_stmts ss tree.no_stmts ≡ ss
stmts_none tree.no_stmts = refl
stmts_none (tree.more_stmts s ss) = ap (tree.more_stmts s) (stmts_none ss)

stmts_assoc : (ss ts us : StmtTrees) →
    add_stmts (add_stmts ss ts) us ≡ add_stmts ss (add_stmts ts us)
stmts_assoc tree.no_stmts ts us = refl
stmts_assoc (tree.more_stmts s ss) ts us = ap (tree.more_stmts s) (stmts_assoc ss ts us)

b_params : (ns ms : List Named) (vs : Vals) (o : Out) → built o ≡ VNames ms ∷ vs →
    built (note.params ns o) ≡ VNames (ms ++ ns) ∷ vs
b_params [] ms vs o h = h ∙ ap (λ l. VNames l ∷ vs) (sym (append-nil ms))
b_params (n ∷ ns) ms vs o h =
    b_params ns (ms ++ n ∷ []) vs (note.Param n ∷ o) (ap (apply (note.Param n)) h)
    ∙ ap (λ l. VNames l ∷ vs) (append_assoc ms (n ∷ []) ns)

-- a place as an expression
abbrev of_place : PlaceTree → ExprTree
of_place (tree.name_place a n) = tree.name a n
of_place (tree.member_place a e key) = tree.member a e key
of_place (tree.index_place a e f) = tree.index a e f

place_back : (p : PlaceTree) → place_of (of_place p) ≡ p
place_back (tree.name_place a n) = refl
place_back (tree.member_place a e key) = refl
place_back (tree.index_place a e f) = refl

mutual
  b_expr : (e : ExprTree) (o : Out) → built (note.expr e o) ≡ VExpr e ∷ built o
  b_expr (tree.number a n) o = refl
  b_expr (tree.text a t) o = refl
  b_expr (tree.bool a b) o = refl
  b_expr (tree.null a) o = refl
  b_expr (tree.undefined a) o = refl
  b_expr (tree.name a n) o = refl
  b_expr (tree.round a e) o = ap (apply (note.Round a)) (b_expr e o)
  b_expr (tree.list a es) o =
      ap (apply (note.List_ a)) (b_exprs es tree.no_exprs (built o) (note.Exprs ∷ o) refl)
  b_expr (tree.object a ms) o =
      ap (apply (note.Object a)) (b_members ms tree.no_members (built o) (note.Members ∷ o) refl)
  b_expr (tree.function a None ns ss) o =
      ap (apply (note.Function a))
      (b_stmts ss tree.no_stmts (VNames ns ∷ built o) _
      (ap (apply note.Stmts) (b_params ns [] (built o) (note.Params ∷ o) refl)))
  b_expr (tree.function a (Some n) ns ss) o =
      ap (apply (note.FunctionNamed a))
      (b_stmts ss tree.no_stmts (VNames ns ∷ VNamed n ∷ built o) _
      (ap (apply note.Stmts)
      (b_params ns [] (VNamed n ∷ built o) (note.Params ∷ note.Named_ n ∷ o) refl)))
  b_expr (tree.arrow a ns f) o =
      b_body f a ns (built o) (note.params ns (note.Params ∷ o))
      (b_params ns [] (built o) (note.Params ∷ o) refl)
  b_expr (tree.assign a s p e) o =
      ap (apply (note.Assign a s))
      (b_expr e (note.place p o) ∙ ap (λ v. VExpr e ∷ v) (b_place p o))
      ∙ ap (λ q. VExpr (tree.assign a s q e) ∷ built o) (place_back p)
  b_expr (tree.choose a e f g) o =
      ap (apply (note.Choose a))
      (b_expr g (note.expr f (note.expr e o))
      ∙ ap (λ v. VExpr g ∷ v)
      (b_expr f (note.expr e o) ∙ ap (λ v. VExpr f ∷ v) (b_expr e o)))
  b_expr (tree.pair a s e f) o =
      ap (apply (note.Pair a s))
      (b_expr f (note.expr e o) ∙ ap (λ v. VExpr f ∷ v) (b_expr e o))
  b_expr (tree.one a s e) o = ap (apply (note.One a s)) (b_expr e o)
  b_expr (tree.step a up before p) o =
      ap (apply (note.Step a up before)) (b_place p o)
      ∙ ap (λ q. VExpr (tree.step a up before q) ∷ built o) (place_back p)
  b_expr (tree.member a e key) o = ap (apply (note.Member a key)) (b_expr e o)
  b_expr (tree.index a e f) o =
      ap (apply (note.Index a))
      (b_expr f (note.expr e o) ∙ ap (λ v. VExpr f ∷ v) (b_expr e o))
  b_expr (tree.call a e es) o =
      ap (apply (note.Call a))
      (b_exprs es tree.no_exprs (VExpr e ∷ built o) (note.Exprs ∷ note.expr e o)
      (ap (apply note.Exprs) (b_expr e o)))

  b_exprs : (es fs : ExprTrees) (vs : Vals) (o : Out) → built o ≡ VExprs fs ∷ vs →
      built (note.exprs es o) ≡ VExprs (add_exprs fs es) ∷ vs
  b_exprs tree.no_exprs fs vs o h = h ∙ ap (λ l. VExprs l ∷ vs) (sym (exprs_none fs))
  b_exprs (tree.more_exprs e es) fs vs o h =
      b_exprs es (add_exprs fs (tree.more_exprs e tree.no_exprs)) vs (note.Expr ∷ note.expr e o)
      (ap (apply note.Expr) (b_expr e o ∙ ap (λ v. VExpr e ∷ v) h))
      ∙ ap (λ l. VExprs l ∷ vs) (exprs_assoc fs (tree.more_exprs e tree.no_exprs) es)

  b_members : (ms ns : MemberTrees) (vs : Vals) (o : Out) → built o ≡ VMembers ns ∷ vs →
      built (note.members ms o) ≡ VMembers (add_members ns ms) ∷ vs
  b_members tree.no_members ns vs o h = h ∙ ap (λ l. VMembers l ∷ vs) (sym (members_none ns))
  b_members (tree.more_members a key e ms) ns vs o h =
      b_members ms (add_members ns (tree.more_members a key e tree.no_members)) vs
      (note.Member_ ∷ note.expr e (note.Key a key ∷ o))
      (ap (apply note.Member_)
      (b_expr e (note.Key a key ∷ o) ∙ ap (λ v. VExpr e ∷ VKey a key ∷ v) h))
      ∙ ap (λ l. VMembers l ∷ vs)
      (members_assoc ns (tree.more_members a key e tree.no_members) ms)

  b_body : (f : BodyTree) (a : ℕ) (ns : List Named) (vs : Vals) (o : Out) →
      built o ≡ VNames ns ∷ vs → built (note.body f a o) ≡ VExpr (tree.arrow a ns f) ∷ vs
  b_body (tree.block_body ss) a ns vs o h =
      ap (apply (note.ArrowBlock a))
      (b_stmts ss tree.no_stmts (VNames ns ∷ vs) (note.Stmts ∷ o) (ap (apply note.Stmts) h))
  b_body (tree.value_body e) a ns vs o h =
      ap (apply (note.Arrow a)) (b_expr e o ∙ ap (λ v. VExpr e ∷ v) h)

  b_place : (p : PlaceTree) (o : Out) → built (note.place p o) ≡ VExpr (of_place p) ∷ built o
  b_place (tree.name_place a n) o = refl
  b_place (tree.member_place a e key) o = ap (apply (note.Member a key)) (b_expr e o)
  b_place (tree.index_place a e f) o =
      ap (apply (note.Index a))
      (b_expr f (note.expr e o) ∙ ap (λ v. VExpr f ∷ v) (b_expr e o))

  b_decls : (ds es : DeclaratorTrees) (vs : Vals) (o : Out) → built o ≡ VDecls es ∷ vs →
      built (note.decls ds o) ≡ VDecls (add_decls es ds) ∷ vs
  b_decls tree.no_declarators es vs o h = h ∙ ap (λ l. VDecls l ∷ vs) (sym (decls_none es))
  b_decls (tree.more_declarators n e ds) es vs o h =
      b_decls ds (add_decls es (tree.more_declarators n e tree.no_declarators)) vs
      (note.given e (note.Named_ n ∷ o))
      (b_given e n es vs (note.Named_ n ∷ o) (ap (λ v. VNamed n ∷ v) h))
      ∙ ap (λ l. VDecls l ∷ vs)
      (decls_assoc es (tree.more_declarators n e tree.no_declarators) ds)

  b_given : (e : MaybeExpr) (n : Named) (ds : DeclaratorTrees) (vs : Vals) (o : Out) →
      built o ≡ VNamed n ∷ VDecls ds ∷ vs →
      built (note.given e o)
      ≡ VDecls (add_decls ds (tree.more_declarators n e tree.no_declarators)) ∷ vs
  b_given tree.no_expr n ds vs o h = ap (apply note.Bare) h
  b_given (tree.some_expr e) n ds vs o h =
      ap (apply note.Given) (b_expr e o ∙ ap (λ v. VExpr e ∷ v) h)

  b_init : (i : InitTree) (o : Out) → built (note.init i o) ≡ VInit i ∷ built o
  b_init tree.no_init o = refl
  b_init (tree.declare_init d ds) o =
      ap (apply (note.DeclareInit d))
      (b_decls ds tree.no_declarators (built o) (note.Decls ∷ o) refl)
  b_init (tree.value_init e) o = ap (apply note.ValueInit) (b_expr e o)

  b_maybe : (e : MaybeExpr) (o : Out) → built (note.maybe e o) ≡ VMaybe e ∷ built o
  b_maybe tree.no_expr o = refl
  b_maybe (tree.some_expr e) o = ap (apply note.Present) (b_expr e o)

  b_returned : (e : MaybeExpr) (a : ℕ) (o : Out) →
      built (note.returned e a o) ≡ VStmt (tree.return_ a e) ∷ built o
  b_returned tree.no_expr a o = refl
  b_returned (tree.some_expr e) a o = ap (apply (note.ReturnValue a)) (b_expr e o)

  b_stmt : (s : StmtTree) (o : Out) → built (note.stmt s o) ≡ VStmt s ∷ built o
  b_stmt (tree.block a ss) o =
      ap (apply (note.Block a)) (b_stmts ss tree.no_stmts (built o) (note.Stmts ∷ o) refl)
  b_stmt (tree.empty a) o = refl
  b_stmt (tree.declare a d ds) o =
      ap (apply (note.Declare a d))
      (b_decls ds tree.no_declarators (built o) (note.Decls ∷ o) refl)
  b_stmt (tree.named_function a n ns ss) o =
      ap (apply (note.FunctionStmt a))
      (b_stmts ss tree.no_stmts (VNames ns ∷ VNamed n ∷ built o) _
      (ap (apply note.Stmts)
      (b_params ns [] (VNamed n ∷ built o) (note.Params ∷ note.Named_ n ∷ o) refl)))
  b_stmt (tree.if_ a e s other) o =
      b_otherwise other a e s (built o) (note.stmt s (note.expr e o))
      (b_stmt s (note.expr e o) ∙ ap (λ v. VStmt s ∷ v) (b_expr e o))
  b_stmt (tree.while_ a e s) o =
      ap (apply (note.While a))
      (b_stmt s (note.expr e o) ∙ ap (λ v. VStmt s ∷ v) (b_expr e o))
  b_stmt (tree.do_while a s e) o =
      ap (apply (note.DoWhile a))
      (b_expr e (note.stmt s o) ∙ ap (λ v. VExpr e ∷ v) (b_stmt s o))
  b_stmt (tree.for_ a i e f s) o =
      ap (apply (note.For a))
      (b_stmt s (note.maybe f (note.maybe e (note.init i o)))
      ∙ ap (λ v. VStmt s ∷ v)
      (b_maybe f (note.maybe e (note.init i o))
      ∙ ap (λ v. VMaybe f ∷ v)
      (b_maybe e (note.init i o) ∙ ap (λ v. VMaybe e ∷ v) (b_init i o))))
  b_stmt (tree.for_in a d n e s) o =
      ap (apply (note.ForIn a d))
      (b_stmt s (note.expr e (note.Named_ n ∷ o))
      ∙ ap (λ v. VStmt s ∷ v) (b_expr e (note.Named_ n ∷ o)))
  b_stmt (tree.break_ a) o = refl
  b_stmt (tree.continue_ a) o = refl
  b_stmt (tree.return_ a e) o = b_returned e a o
  b_stmt (tree.value a e) o = ap (apply (note.Value a)) (b_expr e o)

  b_otherwise :
      (other : MaybeStmt) (a : ℕ) (e : ExprTree) (s : StmtTree) (vs : Vals) (o : Out) →
      built o ≡ VStmt s ∷ VExpr e ∷ vs →
      built (note.otherwise other a o) ≡ VStmt (tree.if_ a e s other) ∷ vs
  b_otherwise tree.no_stmt a e s vs o h = ap (apply (note.If a)) h
  b_otherwise (tree.some_stmt d) a e s vs o h =
      ap (apply (note.IfElse a)) (b_stmt d o ∙ ap (λ v. VStmt d ∷ v) h)

  b_stmts : (ss ts : StmtTrees) (vs : Vals) (o : Out) → built o ≡ VStmts ts ∷ vs →
      built (note.stmts ss o) ≡ VStmts (add_stmts ts ss) ∷ vs
  b_stmts tree.no_stmts ts vs o h = h ∙ ap (λ l. VStmts l ∷ vs) (sym (stmts_none ts))
  b_stmts (tree.more_stmts s ss) ts vs o h =
      b_stmts ss (add_stmts ts (tree.more_stmts s tree.no_stmts)) vs (note.Stmt ∷ note.stmt s o)
      (ap (apply note.Stmt) (b_stmt s o ∙ ap (λ v. VStmt s ∷ v) h))
      ∙ ap (λ l. VStmts l ∷ vs) (stmts_assoc ts (tree.more_stmts s tree.no_stmts) ss)

-- the notes of a script build it
pub builds : (p : StmtTrees) → built (note.stmts p opened) ≡ VStmts p ∷ []
builds p = b_stmts p tree.no_stmts [] opened refl
