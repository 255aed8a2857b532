-- What the machine puts out: the nodes of a tree in a flat list, each behind its parts.
use Rattle.std.specs.Prelude.{ℕ, List, [], ◌∷◌, Bool, Some, None, ℤ}
use Rattle.sjs_syntax.specs.declared.signs.AssignSign.{AssignSign}
use Rattle.sjs_syntax.specs.declared.signs.OneSign.{OneSign}
use Rattle.sjs_syntax.specs.declared.signs.PairSign.{PairSign}
use Rattle.sjs_syntax.specs.declared.statements.Binding.{Binding}
use Rattle.sjs_syntax.specs.declared.statements.Named.{Named}
use Rattle.sjs_syntax.specs.Tree as tree
use Rattle.sjs_syntax.specs.Tree.{ExprTree, MaybeExpr, ExprTrees, MemberTrees, BodyTree}
use Rattle.sjs_syntax.specs.Tree.{PlaceTree, DeclaratorTrees, InitTree, StmtTree, MaybeStmt}
use Rattle.sjs_syntax.specs.Tree.{StmtTrees}

-- a node, with the byte at which it begins, or a step towards one
pub data Note : Type 0 where
  Number : ℕ → ℤ → Note
  Text : ℕ → List ℕ → Note
  Truth : ℕ → Bool → Note
  Null Undefined : ℕ → Note
  Name : ℕ → List ℕ → Note
  Round List_ Object Index Call Choose : ℕ → Note
  Member : ℕ → List ℕ → Note
  Assign : ℕ → AssignSign → Note
  Pair : ℕ → PairSign → Note
  One : ℕ → OneSign → Note
  Step : ℕ → Bool → Bool → Note
  -- a function with no name, a function with one, and one that is a statement
  Function FunctionNamed FunctionStmt : ℕ → Note
  -- an arrow with an expression as its body, and one with a block
  Arrow ArrowBlock : ℕ → Note
  -- a list of expressions begins, and takes one
  Exprs Expr : Note
  -- the members of an object begin, a key is told, and the members take it with its value
  Members : Note
  Key : ℕ → List ℕ → Note
  Member_ : Note
  -- a name is told
  Named_ : Named → Note
  -- parameters begin, and take one
  Params : Note
  Param : Named → Note
  -- declared names begin, and take one with no value or with its value
  Decls Bare Given : Note
  -- what stands first in a `for`
  NoInit ValueInit : Note
  DeclareInit : Binding → Note
  -- an expression that may be absent
  Absent Present : Note
  -- statements begin, and take one
  Stmts Stmt : Note
  Block Empty If IfElse While DoWhile For Break Continue Return ReturnValue Value : ℕ → Note
  Declare ForIn : ℕ → Binding → Note

-- what was put out, the newest first
abbrev pub Out : Type 0
Out = List Note

-- parameters behind what was put out
abbrev pub params : List Named → Out → Out
params [] o = o
params (n ∷ ns) o = params ns (Param n ∷ o)

-- a tree behind what was put out: its parts in their order, and then itself
abbrev mutual
  pub expr : ExprTree → Out → Out
  expr (tree.number a n) o = Number a n ∷ o
  expr (tree.text a t) o = Text a t ∷ o
  expr (tree.bool a b) o = Truth a b ∷ o
  expr (tree.null a) o = Null a ∷ o
  expr (tree.undefined a) o = Undefined a ∷ o
  expr (tree.name a n) o = Name a n ∷ o
  expr (tree.round a e) o = Round a ∷ expr e o
  expr (tree.list a es) o = List_ a ∷ exprs es (Exprs ∷ o)
  expr (tree.object a ms) o = Object a ∷ members ms (Members ∷ o)
  expr (tree.function a None ns ss) o = Function a ∷ stmts ss (Stmts ∷ params ns (Params ∷ o))
  expr (tree.function a (Some n) ns ss) o =
      FunctionNamed a ∷ stmts ss (Stmts ∷ params ns (Params ∷ Named_ n ∷ o))
  expr (tree.arrow a ns f) o = body f a (params ns (Params ∷ o))
  expr (tree.assign a s p e) o = Assign a s ∷ expr e (place p o)
  expr (tree.choose a e f g) o = Choose a ∷ expr g (expr f (expr e o))
  expr (tree.pair a s e f) o = Pair a s ∷ expr f (expr e o)
  expr (tree.one a s e) o = One a s ∷ expr e o
  expr (tree.step a up before p) o = Step a up before ∷ place p o
  expr (tree.member a e key) o = Member a key ∷ expr e o
  expr (tree.index a e f) o = Index a ∷ expr f (expr e o)
  expr (tree.call a e es) o = Call a ∷ exprs es (Exprs ∷ expr e o)

  pub exprs : ExprTrees → Out → Out
  exprs tree.no_exprs o = o
  exprs (tree.more_exprs e es) o = exprs es (Expr ∷ expr e o)

  pub members : MemberTrees → Out → Out
  members tree.no_members o = o
  members (tree.more_members a key e ms) o = members ms (Member_ ∷ expr e (Key a key ∷ o))

  -- the body of the arrow that begins at this byte
  pub body : BodyTree → ℕ → Out → Out
  body (tree.block_body ss) a o = ArrowBlock a ∷ stmts ss (Stmts ∷ o)
  body (tree.value_body e) a o = Arrow a ∷ expr e o

  -- a place is put out as an expression
  pub place : PlaceTree → Out → Out
  place (tree.name_place a n) o = Name a n ∷ o
  place (tree.member_place a e key) o = Member a key ∷ expr e o
  place (tree.index_place a e f) o = Index a ∷ expr f (expr e o)

  pub decls : DeclaratorTrees → Out → Out
  decls tree.no_declarators o = o
  decls (tree.more_declarators n e ds) o = decls ds (given e (Named_ n ∷ o))

  -- the value of a declared name
  pub given : MaybeExpr → Out → Out
  given tree.no_expr o = Bare ∷ o
  given (tree.some_expr e) o = Given ∷ expr e o

  pub init : InitTree → Out → Out
  init tree.no_init o = NoInit ∷ o
  init (tree.declare_init d ds) o = DeclareInit d ∷ decls ds (Decls ∷ o)
  init (tree.value_init e) o = ValueInit ∷ expr e o

  pub maybe : MaybeExpr → Out → Out
  maybe tree.no_expr o = Absent ∷ o
  maybe (tree.some_expr e) o = Present ∷ expr e o

  -- what the `return` at this byte gives
  pub returned : MaybeExpr → ℕ → Out → Out
  returned tree.no_expr a o = Return a ∷ o
  returned (tree.some_expr e) a o = ReturnValue a ∷ expr e o

  pub stmt : StmtTree → Out → Out
  stmt (tree.block a ss) o = Block a ∷ stmts ss (Stmts ∷ o)
  stmt (tree.empty a) o = Empty a ∷ o
  stmt (tree.declare a d ds) o = Declare a d ∷ decls ds (Decls ∷ o)
  stmt (tree.named_function a n ns ss) o =
      FunctionStmt a ∷ stmts ss (Stmts ∷ params ns (Params ∷ Named_ n ∷ o))
  stmt (tree.if_ a e s other) o = otherwise other a (stmt s (expr e o))
  stmt (tree.while_ a e s) o = While a ∷ stmt s (expr e o)
  stmt (tree.do_while a s e) o = DoWhile a ∷ expr e (stmt s o)
  stmt (tree.for_ a i e f s) o = For a ∷ stmt s (maybe f (maybe e (init i o)))
  stmt (tree.for_in a d n e s) o = ForIn a d ∷ stmt s (expr e (Named_ n ∷ o))
  stmt (tree.break_ a) o = Break a ∷ o
  stmt (tree.continue_ a) o = Continue a ∷ o
  stmt (tree.return_ a e) o = returned e a o
  stmt (tree.value a e) o = Value a ∷ expr e o

  -- the end of the `if` at this byte
  pub otherwise : MaybeStmt → ℕ → Out → Out
  otherwise tree.no_stmt a o = If a ∷ o
  otherwise (tree.some_stmt s) a o = IfElse a ∷ stmt s o

  pub stmts : StmtTrees → Out → Out
  stmts tree.no_stmts o = o
  stmts (tree.more_stmts s ss) o = stmts ss (Stmt ∷ stmt s o)
