-- What holds of a script that was read, beyond its tree: numbers are in range, a constant has a
-- value, and `break` and `continue` stand in a loop of the same function.
use Rattle.std.specs.Prelude.{ℤ, pos, negsuc, ◌≤ℤ◌, Bool, true, false, IsTrue}
use Rattle.sjs_syntax.specs.declared.statements.Binding.{Binding}
use Rattle.sjs_syntax.specs.declared.statements.Binding.TheVariants.{Var, Let, Const}
use Rattle.sjs_syntax.specs.Tree.{ExprTree, number, text, bool, null, undefined, name, round, list}
use Rattle.sjs_syntax.specs.Tree.{object, function, arrow, assign, choose, pair, one, step, member}
use Rattle.sjs_syntax.specs.Tree.{index, call, MaybeExpr, no_expr, some_expr, ExprTrees, no_exprs}
use Rattle.sjs_syntax.specs.Tree.{more_exprs, MemberTrees, no_members, more_members, BodyTree}
use Rattle.sjs_syntax.specs.Tree.{block_body, value_body, PlaceTree, name_place, member_place}
use Rattle.sjs_syntax.specs.Tree.{index_place, DeclaratorTrees, no_declarators, more_declarators}
use Rattle.sjs_syntax.specs.Tree.{InitTree, no_init, declare_init, value_init, StmtTree, block}
use Rattle.sjs_syntax.specs.Tree.{empty, declare, named_function, if_, while_, do_while, for_}
use Rattle.sjs_syntax.specs.Tree.{for_in, break_, continue_, return_, value, MaybeStmt, no_stmt}
use Rattle.sjs_syntax.specs.Tree.{some_stmt, StmtTrees, no_stmts, more_stmts}

-- from -9007199254740991 to 9007199254740991
abbrev pub IsInRange : ℤ → Type 0
IsInRange n = (negsuc 9007199254740990 ≤ℤ n) × (n ≤ℤ pos 9007199254740991)

-- a name that is declared by `const` has a value
abbrev pub IsGiven : Binding → MaybeExpr → Type 0
IsGiven Const no_expr = ⊥
IsGiven Const (some_expr e) = Unit {0}
IsGiven Var e = Unit {0}
IsGiven Let e = Unit {0}

unfoldable mutual
  pub IsFormedExpr : ExprTree → Type 0
  IsFormedExpr (number at n) = IsInRange n
  IsFormedExpr (text at t) = Unit {0}
  IsFormedExpr (bool at b) = Unit {0}
  IsFormedExpr (null at) = Unit {0}
  IsFormedExpr (undefined at) = Unit {0}
  IsFormedExpr (name at x) = Unit {0}
  IsFormedExpr (round at e) = IsFormedExpr e
  IsFormedExpr (list at es) = AreFormedExprs es
  IsFormedExpr (object at ms) = AreFormedMembers ms
  IsFormedExpr (function at named params ss) = AreFormedStmts false ss
  IsFormedExpr (arrow at params body) = IsFormedBody body
  IsFormedExpr (assign at sign place e) = IsFormedPlace place × IsFormedExpr e
  IsFormedExpr (choose at test e f) = IsFormedExpr test × IsFormedExpr e × IsFormedExpr f
  IsFormedExpr (pair at sign e f) = IsFormedExpr e × IsFormedExpr f
  IsFormedExpr (one at sign e) = IsFormedExpr e
  IsFormedExpr (step at up before place) = IsFormedPlace place
  IsFormedExpr (member at e key) = IsFormedExpr e
  IsFormedExpr (index at e key) = IsFormedExpr e × IsFormedExpr key
  IsFormedExpr (call at e args) = IsFormedExpr e × AreFormedExprs args

  pub IsFormedMaybe : MaybeExpr → Type 0
  IsFormedMaybe no_expr = Unit {0}
  IsFormedMaybe (some_expr e) = IsFormedExpr e

  pub AreFormedExprs : ExprTrees → Type 0
  AreFormedExprs no_exprs = Unit {0}
  AreFormedExprs (more_exprs e es) = IsFormedExpr e × AreFormedExprs es

  pub AreFormedMembers : MemberTrees → Type 0
  AreFormedMembers no_members = Unit {0}
  AreFormedMembers (more_members at key e ms) = IsFormedExpr e × AreFormedMembers ms

  pub IsFormedBody : BodyTree → Type 0
  IsFormedBody (block_body ss) = AreFormedStmts false ss
  IsFormedBody (value_body e) = IsFormedExpr e

  pub IsFormedPlace : PlaceTree → Type 0
  IsFormedPlace (name_place at x) = Unit {0}
  IsFormedPlace (member_place at e key) = IsFormedExpr e
  IsFormedPlace (index_place at e key) = IsFormedExpr e × IsFormedExpr key

  pub AreFormedDeclarators : Binding → DeclaratorTrees → Type 0
  AreFormedDeclarators binding no_declarators = Unit {0}
  AreFormedDeclarators binding (more_declarators named e ds) =
      IsGiven binding e × IsFormedMaybe e × AreFormedDeclarators binding ds

  pub IsFormedInit : InitTree → Type 0
  IsFormedInit no_init = Unit {0}
  IsFormedInit (declare_init binding ds) = AreFormedDeclarators binding ds
  IsFormedInit (value_init e) = IsFormedExpr e

  -- the truth says whether a loop of the same function is round it
  pub IsFormedStmt : Bool → StmtTree → Type 0
  IsFormedStmt looped (block at ss) = AreFormedStmts looped ss
  IsFormedStmt looped (empty at) = Unit {0}
  IsFormedStmt looped (declare at binding ds) = AreFormedDeclarators binding ds
  IsFormedStmt looped (named_function at named params ss) = AreFormedStmts false ss
  IsFormedStmt looped (if_ at test s other) =
      IsFormedExpr test × IsFormedStmt looped s × IsFormedElse looped other
  IsFormedStmt looped (while_ at test s) = IsFormedExpr test × IsFormedStmt true s
  IsFormedStmt looped (do_while at s test) = IsFormedStmt true s × IsFormedExpr test
  IsFormedStmt looped (for_ at first test last s) =
      IsFormedInit first × IsFormedMaybe test × IsFormedMaybe last × IsFormedStmt true s
  IsFormedStmt looped (for_in at binding named e s) = IsFormedExpr e × IsFormedStmt true s
  IsFormedStmt looped (break_ at) = IsTrue looped
  IsFormedStmt looped (continue_ at) = IsTrue looped
  IsFormedStmt looped (return_ at e) = IsFormedMaybe e
  IsFormedStmt looped (value at e) = IsFormedExpr e

  pub IsFormedElse : Bool → MaybeStmt → Type 0
  IsFormedElse looped no_stmt = Unit {0}
  IsFormedElse looped (some_stmt s) = IsFormedStmt looped s

  pub AreFormedStmts : Bool → StmtTrees → Type 0
  AreFormedStmts looped no_stmts = Unit {0}
  AreFormedStmts looped (more_stmts s ss) = IsFormedStmt looped s × AreFormedStmts looped ss

-- a whole script
abbrev pub IsFormed : StmtTrees → Type 0
IsFormed ss = AreFormedStmts false ss
