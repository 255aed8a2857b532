-- The view from a script to its tree: a clause for each form.
use Rattle.std.specs.Prelude.{ℕ, List, [], ◌∷◌, Option, Some, None, map, option_map}
use Rattle.sjs_syntax.specs.declared.expressions.ArrowBody.TheOpen.{ArrowBody-F, ExprForm-F}
use Rattle.sjs_syntax.specs.declared.expressions.ArrowBody.TheOpen.{PlaceForm-F, ForInit-F}
use Rattle.sjs_syntax.specs.declared.expressions.ArrowBody.TheOpen.{StmtForm-F, Expr-F}
use Rattle.sjs_syntax.specs.declared.expressions.ArrowBody.TheOpen.{ObjectMember-F, Place-F}
use Rattle.sjs_syntax.specs.declared.expressions.ArrowBody.TheOpen.{Declarator-F, Stmt-F}
use Rattle.sjs_syntax.specs.declared.expressions.Expr.{Expr, fold-Expr}
use Rattle.sjs_syntax.specs.declared.statements.Named.{Named}
use Rattle.sjs_syntax.specs.declared.statements.Program.{Program}
use Rattle.sjs_syntax.specs.declared.statements.Stmt.{Stmt, fold-Stmt}
use Rattle.sjs_syntax.specs.Tree.{ExprTree, number, text, bool, null, undefined, name, round, list}
use Rattle.sjs_syntax.specs.Tree.{object, function, arrow, assign, choose, pair, one, step, member}
use Rattle.sjs_syntax.specs.Tree.{index, call, MaybeExpr, no_expr, some_expr, ExprTrees, no_exprs}
use Rattle.sjs_syntax.specs.Tree.{more_exprs, MemberTrees, no_members, more_members, BodyTree}
use Rattle.sjs_syntax.specs.Tree.{block_body, value_body, PlaceTree, name_place, member_place}
use Rattle.sjs_syntax.specs.Tree.{index_place, DeclaratorTrees, no_declarators, more_declarators}
use Rattle.sjs_syntax.specs.Tree.{InitTree, no_init, declare_init, value_init, StmtTree, block}
use Rattle.sjs_syntax.specs.Tree.{empty, declare, named_function, if_, while_, do_while, for_}
use Rattle.sjs_syntax.specs.Tree.{for_in, break_, continue_, return_, value, MaybeStmt, no_stmt}
use Rattle.sjs_syntax.specs.Tree.{some_stmt, StmtTrees, no_stmts, more_stmts}

-- a member of an object: where its key stands, the key and the value
pub record MemberTree : Type 0 where
  pub at : ℕ
  pub key : List ℕ
  pub given : ExprTree

-- a declared name and its value
pub record DeclaratorTree : Type 0 where
  pub named : Named
  pub given : MaybeExpr

abbrev pub maybe_expr : Option ExprTree → MaybeExpr
maybe_expr None = no_expr
maybe_expr (Some e) = some_expr e

abbrev pub maybe_stmt : Option StmtTree → MaybeStmt
maybe_stmt None = no_stmt
maybe_stmt (Some s) = some_stmt s

abbrev pub maybe_init : Option InitTree → InitTree
maybe_init None = no_init
maybe_init (Some i) = i

abbrev pub expr_trees : List ExprTree → ExprTrees
expr_trees [] = no_exprs
expr_trees (e ∷ es) = more_exprs e (expr_trees es)

abbrev pub stmt_trees : List StmtTree → StmtTrees
stmt_trees [] = no_stmts
stmt_trees (s ∷ ss) = more_stmts s (stmt_trees ss)

abbrev pub member_trees : List MemberTree → MemberTrees
member_trees [] = no_members
member_trees (m ∷ ms) = more_members m.at m.key m.given (member_trees ms)

abbrev pub declarator_trees : List DeclaratorTree → DeclaratorTrees
declarator_trees [] = no_declarators
declarator_trees (d ∷ ds) = more_declarators d.named d.given (declarator_trees ds)

-- one level of each type, with all that is inside already seen as trees; a form waits for the byte
-- at which it begins
abbrev pub Level : ((A B C D E F G H I J : Type 0) → Type 0) → Type 0
Level L =
    L BodyTree (ℕ → ExprTree) (ℕ → PlaceTree) InitTree (ℕ → StmtTree)
    ExprTree MemberTree PlaceTree DeclaratorTree StmtTree

abbrev pub body_step : Level ArrowBody-F → BodyTree
body_step (ArrowBody-F.ArrowBody::Block ss) = block_body (stmt_trees ss)
body_step (ArrowBody-F.ArrowBody::Value e) = value_body e.value

abbrev pub expr_step : Level ExprForm-F → ℕ → ExprTree
expr_step (ExprForm-F.Number n) at = number at n
expr_step (ExprForm-F.Text t) at = text at t
expr_step (ExprForm-F.Bool b) at = bool at b
expr_step ExprForm-F.Null at = null at
expr_step ExprForm-F.Undefined at = undefined at
expr_step (ExprForm-F.ExprForm::Name x) at = name at x
expr_step (ExprForm-F.Round e) at = round at e.value
expr_step (ExprForm-F.List es) at = list at (expr_trees es)
expr_step (ExprForm-F.Object ms) at = object at (member_trees ms)
expr_step (ExprForm-F.ExprForm::Function named params ss) at =
    function at named params (stmt_trees ss)
expr_step (ExprForm-F.Arrow params body) at = arrow at params body
expr_step (ExprForm-F.Assign sign place e) at = assign at sign place e.value
expr_step (ExprForm-F.Choose test e f) at = choose at test.value e.value f.value
expr_step (ExprForm-F.Pair sign e f) at = pair at sign e.value f.value
expr_step (ExprForm-F.One sign e) at = one at sign e.value
expr_step (ExprForm-F.Step up before place) at = step at up before place
expr_step (ExprForm-F.ExprForm::Member e key) at = member at e.value key
expr_step (ExprForm-F.ExprForm::Index e key) at = index at e.value key.value
expr_step (ExprForm-F.Call e args) at = call at e.value (expr_trees args)

abbrev pub place_step : Level PlaceForm-F → ℕ → PlaceTree
place_step (PlaceForm-F.PlaceForm::Name x) at = name_place at x
place_step (PlaceForm-F.PlaceForm::Member e key) at = member_place at e.value key
place_step (PlaceForm-F.PlaceForm::Index e key) at = index_place at e.value key.value

abbrev pub init_step : Level ForInit-F → InitTree
init_step (ForInit-F.ForInit::Declare binding ds) = declare_init binding (declarator_trees ds)
init_step (ForInit-F.ForInit::Value e) = value_init e

abbrev pub stmt_step : Level StmtForm-F → ℕ → StmtTree
stmt_step (StmtForm-F.StmtForm::Block ss) at = block at (stmt_trees ss)
stmt_step StmtForm-F.Empty at = empty at
stmt_step (StmtForm-F.StmtForm::Declare binding ds) at = declare at binding (declarator_trees ds)
stmt_step (StmtForm-F.StmtForm::Function named params ss) at =
    named_function at named params (stmt_trees ss)
stmt_step (StmtForm-F.If test s other) at =
    if_ at test s.value (maybe_stmt (option_map (λ b. b.value) other))
stmt_step (StmtForm-F.While test s) at = while_ at test s.value
stmt_step (StmtForm-F.DoWhile s test) at = do_while at s.value test
stmt_step (StmtForm-F.For first test last s) at =
    for_ at (maybe_init first) (maybe_expr test) (maybe_expr last) s.value
stmt_step (StmtForm-F.ForIn binding named e s) at = for_in at binding named e s.value
stmt_step StmtForm-F.Break at = break_ at
stmt_step StmtForm-F.Continue at = continue_ at
stmt_step (StmtForm-F.Return e) at = return_ at (maybe_expr e)
stmt_step (StmtForm-F.StmtForm::Value e) at = value at e

abbrev pub expr_at : Level Expr-F → ExprTree
expr_at e = e.form e.at

abbrev pub member_at : Level ObjectMember-F → MemberTree
member_at m = record { at = m.at; key = m.key; given = m.value }

abbrev pub place_at : Level Place-F → PlaceTree
place_at p = p.form p.at

abbrev pub declarator_of : Level Declarator-F → DeclaratorTree
declarator_of d = record { named = d.name; given = maybe_expr d.value }

abbrev pub stmt_at : Level Stmt-F → StmtTree
stmt_at s = s.form s.at

-- the tree of an expression
abbrev pub expr_of : Expr → ExprTree
expr_of =
    fold-Expr _ _ _ _ _ _ _ _ _ _
    body_step expr_step place_step init_step stmt_step
    expr_at member_at place_at declarator_of stmt_at

-- the tree of a statement
abbrev pub stmt_of : Stmt → StmtTree
stmt_of =
    fold-Stmt _ _ _ _ _ _ _ _ _ _
    body_step expr_step place_step init_step stmt_step
    expr_at member_at place_at declarator_of stmt_at

-- the trees of statements, in order
abbrev pub stmts_of : List Stmt → StmtTrees
stmts_of ss = stmt_trees (map stmt_of ss)

-- the trees of a script's statements
abbrev pub program_of : Program → StmtTrees
program_of p = stmts_of p.body
