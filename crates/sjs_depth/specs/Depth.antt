-- How deep the nodes of a script stand. Nodes are statements, expressions and places that are
-- assigned to; the outermost statements stand 1 deep.
use Rattle.std.specs.Prelude.{ℕ, zero, suc, min, List, [], ◌∷◌, ◌++◌, Option, Some, None}
use Rattle.sjs_syntax.specs.Tree as tree
use Rattle.sjs_syntax.specs.Tree.{ExprTree, MaybeExpr, ExprTrees, MemberTrees, BodyTree}
use Rattle.sjs_syntax.specs.Tree.{PlaceTree, DeclaratorTrees, InitTree, StmtTree, MaybeStmt}
use Rattle.sjs_syntax.specs.Tree.{StmtTrees}

-- the place of a node, where it is what is looked for
abbrev pub here : ℕ → ℕ → List ℕ
here zero a = []
here (suc zero) a = a ∷ []
here (suc (suc k)) a = []

-- how deep a node is to stand among the parts of another
abbrev pub inside : ℕ → ℕ
inside zero = zero
inside (suc k) = k

-- the places of the nodes that stand so deep, those behind others first
abbrev mutual
  pub expr : ExprTree → ℕ → List ℕ
  expr (tree.number a n) k = here k a
  expr (tree.text a t) k = here k a
  expr (tree.bool a b) k = here k a
  expr (tree.null a) k = here k a
  expr (tree.undefined a) k = here k a
  expr (tree.name a n) k = here k a
  expr (tree.round a e) k = here k a ++ expr e (inside k)
  expr (tree.list a es) k = here k a ++ exprs es (inside k)
  expr (tree.object a ms) k = here k a ++ members ms (inside k)
  expr (tree.function a n ns ss) k = here k a ++ stmts ss (inside k)
  expr (tree.arrow a ns f) k = here k a ++ body f (inside k)
  expr (tree.assign a s p e) k = here k a ++ (expr e (inside k) ++ place p (inside k))
  expr (tree.choose a e f g) k =
      here k a ++ (expr g (inside k) ++ (expr f (inside k) ++ expr e (inside k)))
  expr (tree.pair a s e f) k = here k a ++ (expr f (inside k) ++ expr e (inside k))
  expr (tree.one a s e) k = here k a ++ expr e (inside k)
  expr (tree.step a up before p) k = here k a ++ place p (inside k)
  expr (tree.member a e key) k = here k a ++ expr e (inside k)
  expr (tree.index a e f) k = here k a ++ (expr f (inside k) ++ expr e (inside k))
  expr (tree.call a e es) k = here k a ++ (exprs es (inside k) ++ expr e (inside k))

  pub exprs : ExprTrees → ℕ → List ℕ
  exprs tree.no_exprs k = []
  exprs (tree.more_exprs e es) k = exprs es k ++ expr e k

  pub members : MemberTrees → ℕ → List ℕ
  members tree.no_members k = []
  members (tree.more_members a key e ms) k = members ms k ++ expr e k

  pub body : BodyTree → ℕ → List ℕ
  body (tree.block_body ss) k = stmts ss k
  body (tree.value_body e) k = expr e k

  pub place : PlaceTree → ℕ → List ℕ
  place (tree.name_place a n) k = here k a
  place (tree.member_place a e key) k = here k a ++ expr e (inside k)
  place (tree.index_place a e f) k = here k a ++ (expr f (inside k) ++ expr e (inside k))

  pub decls : DeclaratorTrees → ℕ → List ℕ
  decls tree.no_declarators k = []
  decls (tree.more_declarators n e ds) k = decls ds k ++ maybe e k

  pub init : InitTree → ℕ → List ℕ
  init tree.no_init k = []
  init (tree.declare_init d ds) k = decls ds k
  init (tree.value_init e) k = expr e k

  pub maybe : MaybeExpr → ℕ → List ℕ
  maybe tree.no_expr k = []
  maybe (tree.some_expr e) k = expr e k

  pub stmt : StmtTree → ℕ → List ℕ
  stmt (tree.block a ss) k = here k a ++ stmts ss (inside k)
  stmt (tree.empty a) k = here k a
  stmt (tree.declare a d ds) k = here k a ++ decls ds (inside k)
  stmt (tree.named_function a n ns ss) k = here k a ++ stmts ss (inside k)
  stmt (tree.if_ a e s other) k =
      here k a ++ (otherwise other (inside k) ++ (stmt s (inside k) ++ expr e (inside k)))
  stmt (tree.while_ a e s) k = here k a ++ (stmt s (inside k) ++ expr e (inside k))
  stmt (tree.do_while a s e) k = here k a ++ (expr e (inside k) ++ stmt s (inside k))
  stmt (tree.for_ a i e f s) k =
      here k a
      ++ (stmt s (inside k) ++ (maybe f (inside k) ++ (maybe e (inside k) ++ init i (inside k))))
  stmt (tree.for_in a d n e s) k = here k a ++ (stmt s (inside k) ++ expr e (inside k))
  stmt (tree.break_ a) k = here k a
  stmt (tree.continue_ a) k = here k a
  stmt (tree.return_ a e) k = here k a ++ maybe e (inside k)
  stmt (tree.value a e) k = here k a ++ expr e (inside k)

  pub otherwise : MaybeStmt → ℕ → List ℕ
  otherwise tree.no_stmt k = []
  otherwise (tree.some_stmt s) k = stmt s k

  pub stmts : StmtTrees → ℕ → List ℕ
  stmts tree.no_stmts k = []
  stmts (tree.more_stmts s ss) k = stmts ss k ++ stmt s k

-- the least of some places
abbrev pub lesser : ℕ → Option ℕ → Option ℕ
lesser a None = Some a
lesser a (Some b) = Some (min a b)

abbrev pub least : List ℕ → Option ℕ
least [] = None
least (a ∷ rest) = lesser a (least rest)

-- the place of the first node with 100 nodes above it
abbrev pub too_deep_at : StmtTrees → Option ℕ
too_deep_at script = least (stmts script 101)
