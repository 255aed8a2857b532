-- The pass over the notes of a tree finds the places of its nodes.
use Rattle.std.proofs.Common.{◌≡◌, ℕ, zero, List, [], ◌∷◌, ◌++◌, Some, None, refl, sym}
use Rattle.std.proofs.Common.{◌∙◌, ap, append_assoc, append-nil}
use Rattle.sjs_syntax.specs.declared.statements.Named.{Named}
use Rattle.sjs_syntax.specs.Tree as tree
use Rattle.sjs_syntax.specs.Tree.{ExprTree, MaybeExpr, ExprTrees, MemberTrees, BodyTree}
use Rattle.sjs_syntax.specs.Tree.{PlaceTree, DeclaratorTrees, InitTree, StmtTree, MaybeStmt}
use Rattle.sjs_syntax.specs.Tree.{StmtTrees}
use Rattle.sjs_table.specs.Notes as note
use Rattle.sjs_table.specs.Notes.{Out}
use Rattle.sjs_table.specs.Runs.{opened}
use Rattle.sjs_depth.specs.Depth as depth
use Rattle.sjs_depth.specs.Depth.{here, inside}
use Rattle.sjs_depth.specs.Pass.{pass}

p_params : (ns : List Named) (k : ℕ) (ks : List ℕ) (o : Out) →
    pass (note.params ns o) (k ∷ ks) ≡ pass o (k ∷ ks)
p_params [] k ks o = refl
p_params (n ∷ ns) k ks o = p_params ns k ks (note.Param n ∷ o)

-- a node before its parts
one : (z a q : List ℕ) {p : List ℕ} → p ≡ a ++ q → z ++ p ≡ (z ++ a) ++ q
one z a q e = ap (λ r. z ++ r) e ∙ sym (append_assoc z a q)

-- a part before another
two : (a b q : List ℕ) {p r : List ℕ} → p ≡ a ++ r → r ≡ b ++ q → p ≡ (a ++ b) ++ q
two a b q e f = e ∙ ap (λ r. a ++ r) f ∙ sym (append_assoc a b q)

-- a node with two parts, and with three
pair : (z a b q : List ℕ) {p r : List ℕ} → p ≡ a ++ r → r ≡ b ++ q →
    z ++ p ≡ (z ++ (a ++ b)) ++ q
pair z a b q e f = one z (a ++ b) q (two a b q e f)

three : (z a b c q : List ℕ) {p r t : List ℕ} → p ≡ a ++ r → r ≡ b ++ t → t ≡ c ++ q →
    z ++ p ≡ (z ++ (a ++ (b ++ c))) ++ q
three z a b c q e f g = one z (a ++ (b ++ c)) q (two a (b ++ c) q e (two b c q f g))

mutual
  p_expr : (e : ExprTree) (k : ℕ) (ks : List ℕ) (o : Out) →
      pass (note.expr e o) (k ∷ ks) ≡ depth.expr e k ++ pass o ks
  p_expr (tree.number a n) k ks o = refl
  p_expr (tree.text a t) k ks o = refl
  p_expr (tree.bool a b) k ks o = refl
  p_expr (tree.null a) k ks o = refl
  p_expr (tree.undefined a) k ks o = refl
  p_expr (tree.name a n) k ks o = refl
  p_expr (tree.round a e) k ks o = one (here k a) _ _ (p_expr e (inside k) ks o)
  p_expr (tree.list a es) k ks o =
      one (here k a) _ _ (p_exprs es (inside k) ks (note.Exprs ∷ o))
  p_expr (tree.object a ms) k ks o =
      one (here k a) _ _ (p_members ms (inside k) ks (note.Members ∷ o))
  p_expr (tree.function a None ns ss) k ks o =
      one (here k a) _ _
      (p_stmts ss (inside k) (zero ∷ ks) (note.Stmts ∷ note.params ns (note.Params ∷ o))
      ∙ ap (λ r. depth.stmts ss (inside k) ++ r) (p_params ns zero ks (note.Params ∷ o)))
  p_expr (tree.function a (Some n) ns ss) k ks o =
      one (here k a) _ _
      (p_stmts ss (inside k) (zero ∷ zero ∷ ks)
      (note.Stmts ∷ note.params ns (note.Params ∷ note.Named_ n ∷ o))
      ∙ ap (λ r. depth.stmts ss (inside k) ++ r)
      (p_params ns zero (zero ∷ ks) (note.Params ∷ note.Named_ n ∷ o)))
  p_expr (tree.arrow a ns f) k ks o = p_body f a ns k ks o
  p_expr (tree.assign a s p e) k ks o =
      pair (here k a) _ _ _ (p_expr e (inside k) (inside k ∷ ks) (note.place p o))
      (p_place p (inside k) ks o)
  p_expr (tree.choose a e f g) k ks o =
      three (here k a) _ _ _ _
      (p_expr g (inside k) (inside k ∷ inside k ∷ ks) (note.expr f (note.expr e o)))
      (p_expr f (inside k) (inside k ∷ ks) (note.expr e o))
      (p_expr e (inside k) ks o)
  p_expr (tree.pair a s e f) k ks o =
      pair (here k a) _ _ _ (p_expr f (inside k) (inside k ∷ ks) (note.expr e o))
      (p_expr e (inside k) ks o)
  p_expr (tree.one a s e) k ks o = one (here k a) _ _ (p_expr e (inside k) ks o)
  p_expr (tree.step a up before p) k ks o = one (here k a) _ _ (p_place p (inside k) ks o)
  p_expr (tree.member a e key) k ks o = one (here k a) _ _ (p_expr e (inside k) ks o)
  p_expr (tree.index a e f) k ks o =
      pair (here k a) _ _ _ (p_expr f (inside k) (inside k ∷ ks) (note.expr e o))
      (p_expr e (inside k) ks o)
  p_expr (tree.call a e es) k ks o =
      pair (here k a) _ _ _
      (p_exprs es (inside k) (inside k ∷ ks) (note.Exprs ∷ note.expr e o))
      (p_expr e (inside k) ks o)

  p_exprs : (es : ExprTrees) (k : ℕ) (ks : List ℕ) (o : Out) →
      pass (note.exprs es o) (k ∷ ks) ≡ depth.exprs es k ++ pass o (k ∷ ks)
  p_exprs tree.no_exprs k ks o = refl
  p_exprs (tree.more_exprs e es) k ks o =
      two (depth.exprs es k) (depth.expr e k) (pass o (k ∷ ks))
      (p_exprs es k ks (note.Expr ∷ note.expr e o)) (p_expr e k (k ∷ ks) o)

  p_members : (ms : MemberTrees) (k : ℕ) (ks : List ℕ) (o : Out) →
      pass (note.members ms o) (k ∷ ks) ≡ depth.members ms k ++ pass o (k ∷ ks)
  p_members tree.no_members k ks o = refl
  p_members (tree.more_members a key e ms) k ks o =
      two (depth.members ms k) (depth.expr e k) (pass o (k ∷ ks))
      (p_members ms k ks (note.Member_ ∷ note.expr e (note.Key a key ∷ o)))
      (p_expr e k (zero ∷ k ∷ ks) (note.Key a key ∷ o))

  p_body : (f : BodyTree) (a : ℕ) (ns : List Named) (k : ℕ) (ks : List ℕ) (o : Out) →
      pass (note.body f a (note.params ns (note.Params ∷ o))) (k ∷ ks)
      ≡ (here k a ++ depth.body f (inside k)) ++ pass o ks
  p_body (tree.block_body ss) a ns k ks o =
      one (here k a) _ _
      (p_stmts ss (inside k) (zero ∷ ks) (note.Stmts ∷ note.params ns (note.Params ∷ o))
      ∙ ap (λ r. depth.stmts ss (inside k) ++ r) (p_params ns zero ks (note.Params ∷ o)))
  p_body (tree.value_body e) a ns k ks o =
      one (here k a) _ _
      (p_expr e (inside k) (zero ∷ ks) (note.params ns (note.Params ∷ o))
      ∙ ap (λ r. depth.expr e (inside k) ++ r) (p_params ns zero ks (note.Params ∷ o)))

  p_place : (p : PlaceTree) (k : ℕ) (ks : List ℕ) (o : Out) →
      pass (note.place p o) (k ∷ ks) ≡ depth.place p k ++ pass o ks
  p_place (tree.name_place a n) k ks o = refl
  p_place (tree.member_place a e key) k ks o = one (here k a) _ _ (p_expr e (inside k) ks o)
  p_place (tree.index_place a e f) k ks o =
      pair (here k a) _ _ _ (p_expr f (inside k) (inside k ∷ ks) (note.expr e o))
      (p_expr e (inside k) ks o)

  p_decls : (ds : DeclaratorTrees) (k : ℕ) (ks : List ℕ) (o : Out) →
      pass (note.decls ds o) (k ∷ ks) ≡ depth.decls ds k ++ pass o (k ∷ ks)
  p_decls tree.no_declarators k ks o = refl
  p_decls (tree.more_declarators n e ds) k ks o =
      two (depth.decls ds k) (depth.maybe e k) (pass o (k ∷ ks))
      (p_decls ds k ks (note.given e (note.Named_ n ∷ o))) (p_given e n k ks o)

  p_given : (e : MaybeExpr) (n : Named) (k : ℕ) (ks : List ℕ) (o : Out) →
      pass (note.given e (note.Named_ n ∷ o)) (k ∷ ks) ≡ depth.maybe e k ++ pass o (k ∷ ks)
  p_given tree.no_expr n k ks o = refl
  p_given (tree.some_expr e) n k ks o = p_expr e k (zero ∷ k ∷ ks) (note.Named_ n ∷ o)

  p_init : (i : InitTree) (k : ℕ) (ks : List ℕ) (o : Out) →
      pass (note.init i o) (k ∷ ks) ≡ depth.init i k ++ pass o ks
  p_init tree.no_init k ks o = refl
  p_init (tree.declare_init d ds) k ks o = p_decls ds k ks (note.Decls ∷ o)
  p_init (tree.value_init e) k ks o = p_expr e k ks o

  p_maybe : (e : MaybeExpr) (k : ℕ) (ks : List ℕ) (o : Out) →
      pass (note.maybe e o) (k ∷ ks) ≡ depth.maybe e k ++ pass o ks
  p_maybe tree.no_expr k ks o = refl
  p_maybe (tree.some_expr e) k ks o = p_expr e k ks o

  p_returned : (e : MaybeExpr) (a k : ℕ) (ks : List ℕ) (o : Out) →
      pass (note.returned e a o) (k ∷ ks)
      ≡ (here k a ++ depth.maybe e (inside k)) ++ pass o ks
  p_returned tree.no_expr a k ks o = one (here k a) [] (pass o ks) refl
  p_returned (tree.some_expr e) a k ks o = one (here k a) _ _ (p_expr e (inside k) ks o)

  p_stmt : (s : StmtTree) (k : ℕ) (ks : List ℕ) (o : Out) →
      pass (note.stmt s o) (k ∷ ks) ≡ depth.stmt s k ++ pass o ks
  p_stmt (tree.block a ss) k ks o =
      one (here k a) _ _ (p_stmts ss (inside k) ks (note.Stmts ∷ o))
  p_stmt (tree.empty a) k ks o = refl
  p_stmt (tree.declare a d ds) k ks o =
      one (here k a) _ _ (p_decls ds (inside k) ks (note.Decls ∷ o))
  p_stmt (tree.named_function a n ns ss) k ks o =
      one (here k a) _ _
      (p_stmts ss (inside k) (zero ∷ zero ∷ ks)
      (note.Stmts ∷ note.params ns (note.Params ∷ note.Named_ n ∷ o))
      ∙ ap (λ r. depth.stmts ss (inside k) ++ r)
      (p_params ns zero (zero ∷ ks) (note.Params ∷ note.Named_ n ∷ o)))
  p_stmt (tree.if_ a e s other) k ks o =
      p_otherwise other a k ks (note.stmt s (note.expr e o))
      (depth.stmt s (inside k) ++ depth.expr e (inside k)) (pass o ks)
      (two _ _ _ (p_stmt s (inside k) (inside k ∷ ks) (note.expr e o)) (p_expr e (inside k) ks o))
  p_stmt (tree.while_ a e s) k ks o =
      pair (here k a) _ _ _ (p_stmt s (inside k) (inside k ∷ ks) (note.expr e o))
      (p_expr e (inside k) ks o)
  p_stmt (tree.do_while a s e) k ks o =
      pair (here k a) _ _ _ (p_expr e (inside k) (inside k ∷ ks) (note.stmt s o))
      (p_stmt s (inside k) ks o)
  p_stmt (tree.for_ a i e f s) k ks o =
      three (here k a) _ _ _ _
      (p_stmt s (inside k) (inside k ∷ inside k ∷ inside k ∷ ks)
      (note.maybe f (note.maybe e (note.init i o))))
      (p_maybe f (inside k) (inside k ∷ inside k ∷ ks) (note.maybe e (note.init i o)))
      (two _ _ _ (p_maybe e (inside k) (inside k ∷ ks) (note.init i o)) (p_init i (inside k) ks o))
  p_stmt (tree.for_in a d n e s) k ks o =
      pair (here k a) _ _ _
      (p_stmt s (inside k) (inside k ∷ zero ∷ ks) (note.expr e (note.Named_ n ∷ o)))
      (p_expr e (inside k) (zero ∷ ks) (note.Named_ n ∷ o))
  p_stmt (tree.break_ a) k ks o = refl
  p_stmt (tree.continue_ a) k ks o = refl
  p_stmt (tree.return_ a e) k ks o = p_returned e a k ks o
  p_stmt (tree.value a e) k ks o = one (here k a) _ _ (p_expr e (inside k) ks o)

  -- the end of an `if`, whose statement and test come to these places
  p_otherwise : (other : MaybeStmt) (a k : ℕ) (ks : List ℕ) (o : Out) (b q : List ℕ) →
      pass o (inside k ∷ inside k ∷ ks) ≡ b ++ q →
      pass (note.otherwise other a o) (k ∷ ks)
      ≡ (here k a ++ (depth.otherwise other (inside k) ++ b)) ++ q
  p_otherwise tree.no_stmt a k ks o b q h = one (here k a) b q h
  p_otherwise (tree.some_stmt d) a k ks o b q h =
      pair (here k a) (depth.stmt d (inside k)) b q
      (p_stmt d (inside k) (inside k ∷ inside k ∷ ks) o) h

  p_stmts : (ss : StmtTrees) (k : ℕ) (ks : List ℕ) (o : Out) →
      pass (note.stmts ss o) (k ∷ ks) ≡ depth.stmts ss k ++ pass o (k ∷ ks)
  p_stmts tree.no_stmts k ks o = refl
  p_stmts (tree.more_stmts s ss) k ks o =
      two (depth.stmts ss k) (depth.stmt s k) (pass o (k ∷ ks))
      (p_stmts ss k ks (note.Stmt ∷ note.stmt s o)) (p_stmt s k (k ∷ ks) o)

-- the pass finds the places of the nodes of a script that stand so deep
pub passes : (p : StmtTrees) (k : ℕ) →
    pass (note.stmts p opened) (k ∷ []) ≡ depth.stmts p k
passes p k = p_stmts p k [] opened ∙ append-nil (depth.stmts p k)
