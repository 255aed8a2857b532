-- The tree that a script stands for: plain numbers, texts and lists, and no pointers.
use Rattle.std.specs.Prelude.{ℕ, ℤ, List, Bool, Option}
use Rattle.sjs_syntax.specs.declared.signs.AssignSign.{AssignSign}
use Rattle.sjs_syntax.specs.declared.signs.OneSign.{OneSign}
use Rattle.sjs_syntax.specs.declared.signs.PairSign.{PairSign}
use Rattle.sjs_syntax.specs.declared.statements.Binding.{Binding}
use Rattle.sjs_syntax.specs.declared.statements.Named.{Named}

-- an expression: the byte at which it begins, and its parts
mutual
  pub data ExprTree : Type 0 where
    number : ℕ → ℤ → ExprTree
    text : ℕ → List ℕ → ExprTree
    bool : ℕ → Bool → ExprTree
    null : ℕ → ExprTree
    undefined : ℕ → ExprTree
    name : ℕ → List ℕ → ExprTree
    round : ℕ → ExprTree → ExprTree
    list : ℕ → ExprTrees → ExprTree
    object : ℕ → MemberTrees → ExprTree
    function : ℕ → Option Named → List Named → StmtTrees → ExprTree
    arrow : ℕ → List Named → BodyTree → ExprTree
    assign : ℕ → AssignSign → PlaceTree → ExprTree → ExprTree
    choose : ℕ → ExprTree → ExprTree → ExprTree → ExprTree
    pair : ℕ → PairSign → ExprTree → ExprTree → ExprTree
    one : ℕ → OneSign → ExprTree → ExprTree
    step : ℕ → Bool → Bool → PlaceTree → ExprTree
    member : ℕ → ExprTree → List ℕ → ExprTree
    index : ℕ → ExprTree → ExprTree → ExprTree
    call : ℕ → ExprTree → ExprTrees → ExprTree

  -- an expression that may be absent
  pub data MaybeExpr : Type 0 where
    no_expr : MaybeExpr
    some_expr : ExprTree → MaybeExpr

  -- expressions, in order
  pub data ExprTrees : Type 0 where
    no_exprs : ExprTrees
    more_exprs : ExprTree → ExprTrees → ExprTrees

  -- members of an object, in order: where the key stands, the key and the value
  pub data MemberTrees : Type 0 where
    no_members : MemberTrees
    more_members : ℕ → List ℕ → ExprTree → MemberTrees → MemberTrees

  -- the body of an arrow
  pub data BodyTree : Type 0 where
    block_body : StmtTrees → BodyTree
    value_body : ExprTree → BodyTree

  -- what can be assigned to: the byte at which it begins, and its parts
  pub data PlaceTree : Type 0 where
    name_place : ℕ → List ℕ → PlaceTree
    member_place : ℕ → ExprTree → List ℕ → PlaceTree
    index_place : ℕ → ExprTree → ExprTree → PlaceTree

  -- declared names with their values, in order
  pub data DeclaratorTrees : Type 0 where
    no_declarators : DeclaratorTrees
    more_declarators : Named → MaybeExpr → DeclaratorTrees → DeclaratorTrees

  -- what stands before the first semicolon of a `for`
  pub data InitTree : Type 0 where
    no_init : InitTree
    declare_init : Binding → DeclaratorTrees → InitTree
    value_init : ExprTree → InitTree

  -- a statement: the byte at which it begins, and its parts
  pub data StmtTree : Type 0 where
    block : ℕ → StmtTrees → StmtTree
    empty : ℕ → StmtTree
    declare : ℕ → Binding → DeclaratorTrees → StmtTree
    named_function : ℕ → Named → List Named → StmtTrees → StmtTree
    if_ : ℕ → ExprTree → StmtTree → MaybeStmt → StmtTree
    while_ : ℕ → ExprTree → StmtTree → StmtTree
    do_while : ℕ → StmtTree → ExprTree → StmtTree
    for_ : ℕ → InitTree → MaybeExpr → MaybeExpr → StmtTree → StmtTree
    for_in : ℕ → Binding → Named → ExprTree → StmtTree → StmtTree
    break_ : ℕ → StmtTree
    continue_ : ℕ → StmtTree
    return_ : ℕ → MaybeExpr → StmtTree
    value : ℕ → ExprTree → StmtTree

  -- a statement that may be absent
  pub data MaybeStmt : Type 0 where
    no_stmt : MaybeStmt
    some_stmt : StmtTree → MaybeStmt

  -- statements, in order
  pub data StmtTrees : Type 0 where
    no_stmts : StmtTrees
    more_stmts : StmtTree → StmtTrees → StmtTrees
