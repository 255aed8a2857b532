-- The trees that notes build: each note takes the values on top and puts one in their stead. Notes
-- that fit no values leave none.
use Rattle.std.specs.Prelude.{ℕ, List, [], ◌∷◌, ◌++◌, Some, None}
use Rattle.sjs_syntax.specs.declared.statements.Named.{Named}
use Rattle.sjs_syntax.specs.Tree as tree
use Rattle.sjs_syntax.specs.Tree.{ExprTree, MaybeExpr, ExprTrees, MemberTrees, BodyTree}
use Rattle.sjs_syntax.specs.Tree.{PlaceTree, DeclaratorTrees, InitTree, StmtTree, MaybeStmt}
use Rattle.sjs_syntax.specs.Tree.{StmtTrees}
use Rattle.sjs_table.specs.Notes as note
use Rattle.sjs_table.specs.Notes.{Note, Out}

-- a value that is built
pub data Val : Type 0 where
  VExpr : ExprTree → Val
  VExprs : ExprTrees → Val
  VKey : ℕ → List ℕ → Val
  VMembers : MemberTrees → Val
  VNamed : Named → Val
  VNames : List Named → Val
  VDecls : DeclaratorTrees → Val
  VInit : InitTree → Val
  VMaybe : MaybeExpr → Val
  VStmt : StmtTree → Val
  VStmts : StmtTrees → Val

-- values, the newest first
abbrev pub Vals : Type 0
Vals = List Val

-- what is done with the newest value where it is of that kind
abbrev pub on_expr : (ExprTree → Vals → Vals) → Vals → Vals
on_expr f (VExpr e ∷ vs) = f e vs
on_expr f vs = []

abbrev pub on_exprs : (ExprTrees → Vals → Vals) → Vals → Vals
on_exprs f (VExprs es ∷ vs) = f es vs
on_exprs f vs = []

abbrev pub on_key : (ℕ → List ℕ → Vals → Vals) → Vals → Vals
on_key f (VKey a w ∷ vs) = f a w vs
on_key f vs = []

abbrev pub on_members : (MemberTrees → Vals → Vals) → Vals → Vals
on_members f (VMembers ms ∷ vs) = f ms vs
on_members f vs = []

abbrev pub on_named : (Named → Vals → Vals) → Vals → Vals
on_named f (VNamed n ∷ vs) = f n vs
on_named f vs = []

abbrev pub on_names : (List Named → Vals → Vals) → Vals → Vals
on_names f (VNames ns ∷ vs) = f ns vs
on_names f vs = []

abbrev pub on_decls : (DeclaratorTrees → Vals → Vals) → Vals → Vals
on_decls f (VDecls ds ∷ vs) = f ds vs
on_decls f vs = []

abbrev pub on_init : (InitTree → Vals → Vals) → Vals → Vals
on_init f (VInit i ∷ vs) = f i vs
on_init f vs = []

abbrev pub on_maybe : (MaybeExpr → Vals → Vals) → Vals → Vals
on_maybe f (VMaybe e ∷ vs) = f e vs
on_maybe f vs = []

abbrev pub on_stmt : (StmtTree → Vals → Vals) → Vals → Vals
on_stmt f (VStmt s ∷ vs) = f s vs
on_stmt f vs = []

abbrev pub on_stmts : (StmtTrees → Vals → Vals) → Vals → Vals
on_stmts f (VStmts ss ∷ vs) = f ss vs
on_stmts f vs = []

-- one more at the end of a list
abbrev pub add_exprs : ExprTrees → ExprTrees → ExprTrees
add_exprs tree.no_exprs fs = fs
add_exprs (tree.more_exprs e es) fs = tree.more_exprs e (add_exprs es fs)

abbrev pub add_members : MemberTrees → MemberTrees → MemberTrees
add_members tree.no_members ns = ns
add_members (tree.more_members a key e ms) ns = tree.more_members a key e (add_members ms ns)

abbrev pub add_decls : DeclaratorTrees → DeclaratorTrees → DeclaratorTrees
add_decls tree.no_declarators es = es
add_decls (tree.more_declarators n e ds) es = tree.more_declarators n e (add_decls ds es)

abbrev pub add_stmts : StmtTrees → StmtTrees → StmtTrees
add_stmts tree.no_stmts ts = ts
add_stmts (tree.more_stmts s ss) ts = tree.more_stmts s (add_stmts ss ts)

-- an expression that is a place, as a place
abbrev pub place_of : ExprTree → PlaceTree
place_of (tree.name a n) = tree.name_place a n
place_of (tree.member a e key) = tree.member_place a e key
place_of (tree.index a e f) = tree.index_place a e f
place_of e = tree.name_place 0 []

-- one expression is made another
abbrev pub of_expr : (ExprTree → Val) → Vals → Vals
of_expr f = on_expr (λ e vs. f e ∷ vs)

-- two expressions are made one value, the older first
abbrev pub of_two : (ExprTree → ExprTree → Val) → Vals → Vals
of_two f = on_expr (λ e. on_expr (λ d vs. f d e ∷ vs))

-- a declared name takes its value, and the names before it take both
abbrev pub declared : MaybeExpr → Vals → Vals
declared e =
    on_named (λ n.
    on_decls (λ ds vs.
    VDecls (add_decls ds (tree.more_declarators n e tree.no_declarators)) ∷ vs))

-- what a note does with the values so far
abbrev pub apply : Note → Vals → Vals
apply (note.Number a n) vs = VExpr (tree.number a n) ∷ vs
apply (note.Text a t) vs = VExpr (tree.text a t) ∷ vs
apply (note.Truth a b) vs = VExpr (tree.bool a b) ∷ vs
apply (note.Null a) vs = VExpr (tree.null a) ∷ vs
apply (note.Undefined a) vs = VExpr (tree.undefined a) ∷ vs
apply (note.Name a n) vs = VExpr (tree.name a n) ∷ vs
apply (note.Round a) vs = of_expr (λ e. VExpr (tree.round a e)) vs
apply (note.List_ a) vs = on_exprs (λ es us. VExpr (tree.list a es) ∷ us) vs
apply (note.Object a) vs = on_members (λ ms us. VExpr (tree.object a ms) ∷ us) vs
apply (note.Index a) vs = of_two (λ e f. VExpr (tree.index a e f)) vs
apply (note.Call a) vs =
    on_exprs (λ es. of_expr (λ e. VExpr (tree.call a e es))) vs
apply (note.Choose a) vs =
    on_expr (λ g. of_two (λ e f. VExpr (tree.choose a e f g))) vs
apply (note.Member a key) vs = of_expr (λ e. VExpr (tree.member a e key)) vs
apply (note.Assign a s) vs = of_two (λ p e. VExpr (tree.assign a s (place_of p) e)) vs
apply (note.Pair a s) vs = of_two (λ e f. VExpr (tree.pair a s e f)) vs
apply (note.One a s) vs = of_expr (λ e. VExpr (tree.one a s e)) vs
apply (note.Step a up before) vs =
    of_expr (λ p. VExpr (tree.step a up before (place_of p))) vs
apply (note.Function a) vs =
    on_stmts (λ ss. on_names (λ ns us. VExpr (tree.function a None ns ss) ∷ us)) vs
apply (note.FunctionNamed a) vs =
    on_stmts (λ ss.
    on_names (λ ns.
    on_named (λ n us. VExpr (tree.function a (Some n) ns ss) ∷ us))) vs
apply (note.FunctionStmt a) vs =
    on_stmts (λ ss.
    on_names (λ ns.
    on_named (λ n us. VStmt (tree.named_function a n ns ss) ∷ us))) vs
apply (note.Arrow a) vs =
    on_expr (λ e. on_names (λ ns us. VExpr (tree.arrow a ns (tree.value_body e)) ∷ us)) vs
apply (note.ArrowBlock a) vs =
    on_stmts (λ ss. on_names (λ ns us. VExpr (tree.arrow a ns (tree.block_body ss)) ∷ us)) vs
apply note.Exprs vs = VExprs tree.no_exprs ∷ vs
apply note.Expr vs =
    on_expr (λ e.
    on_exprs (λ es us. VExprs (add_exprs es (tree.more_exprs e tree.no_exprs)) ∷ us)) vs
apply note.Members vs = VMembers tree.no_members ∷ vs
apply (note.Key a w) vs = VKey a w ∷ vs
apply note.Member_ vs =
    on_expr (λ e.
    on_key (λ a w.
    on_members (λ ms us.
    VMembers (add_members ms (tree.more_members a w e tree.no_members)) ∷ us))) vs
apply (note.Named_ n) vs = VNamed n ∷ vs
apply note.Params vs = VNames [] ∷ vs
apply (note.Param n) vs = on_names (λ ns us. VNames (ns ++ n ∷ []) ∷ us) vs
apply note.Decls vs = VDecls tree.no_declarators ∷ vs
apply note.Bare vs = declared tree.no_expr vs
apply note.Given vs = on_expr (λ e. declared (tree.some_expr e)) vs
apply note.NoInit vs = VInit tree.no_init ∷ vs
apply note.ValueInit vs = of_expr (λ e. VInit (tree.value_init e)) vs
apply (note.DeclareInit d) vs = on_decls (λ ds us. VInit (tree.declare_init d ds) ∷ us) vs
apply note.Absent vs = VMaybe tree.no_expr ∷ vs
apply note.Present vs = of_expr (λ e. VMaybe (tree.some_expr e)) vs
apply note.Stmts vs = VStmts tree.no_stmts ∷ vs
apply note.Stmt vs =
    on_stmt (λ s.
    on_stmts (λ ss us. VStmts (add_stmts ss (tree.more_stmts s tree.no_stmts)) ∷ us)) vs
apply (note.Block a) vs = on_stmts (λ ss us. VStmt (tree.block a ss) ∷ us) vs
apply (note.Empty a) vs = VStmt (tree.empty a) ∷ vs
apply (note.If a) vs =
    on_stmt (λ s. of_expr (λ e. VStmt (tree.if_ a e s tree.no_stmt))) vs
apply (note.IfElse a) vs =
    on_stmt (λ o.
    on_stmt (λ s. of_expr (λ e. VStmt (tree.if_ a e s (tree.some_stmt o))))) vs
apply (note.While a) vs = on_stmt (λ s. of_expr (λ e. VStmt (tree.while_ a e s))) vs
apply (note.DoWhile a) vs =
    on_expr (λ e. on_stmt (λ s us. VStmt (tree.do_while a s e) ∷ us)) vs
apply (note.For a) vs =
    on_stmt (λ s.
    on_maybe (λ f.
    on_maybe (λ e.
    on_init (λ i us. VStmt (tree.for_ a i e f s) ∷ us)))) vs
apply (note.Break a) vs = VStmt (tree.break_ a) ∷ vs
apply (note.Continue a) vs = VStmt (tree.continue_ a) ∷ vs
apply (note.Return a) vs = VStmt (tree.return_ a tree.no_expr) ∷ vs
apply (note.ReturnValue a) vs = of_expr (λ e. VStmt (tree.return_ a (tree.some_expr e))) vs
apply (note.Value a) vs = of_expr (λ e. VStmt (tree.value a e)) vs
apply (note.Declare a d) vs = on_decls (λ ds us. VStmt (tree.declare a d ds) ∷ us) vs
apply (note.ForIn a d) vs =
    on_stmt (λ s.
    on_expr (λ e. on_named (λ n us. VStmt (tree.for_in a d n e s) ∷ us))) vs

-- the values that notes build
abbrev pub built : Out → Vals
built [] = []
built (n ∷ o) = apply n (built o)

-- the script that notes build, if they build one
abbrev pub script_of : Vals → StmtTrees
script_of (VStmts ss ∷ vs) = ss
script_of vs = tree.no_stmts
