-- Worked scripts, token by token: which tree they are.
use Rattle.std.specs.Prelude.{pos, List, [], ◌∷◌, true, false, Some, None}
use Rattle.std.specs.Prelude.{codes, decimal}
use Rattle.sjs_syntax.specs.declared.signs.AssignSign.TheVariants as assign
use Rattle.sjs_syntax.specs.declared.signs.OneSign.TheVariants as one
use Rattle.sjs_syntax.specs.declared.signs.PairSign.TheVariants as pair
use Rattle.sjs_syntax.specs.declared.statements.Binding.TheVariants as binding
use Rattle.sjs_syntax.specs.Tree as tree
use Rattle.sjs_syntax.specs.Tree.{StmtTrees}
use Rattle.sjs_grammar.specs.Grammar.{named, Reads}
use Rattle.sjs_grammar.specs.Kinds as k
use Rattle.sjs_grammar.specs.Tokens.{tok, Toks}

-- a = b + 1;
abbrev pub a_sum : Toks × StmtTrees
a_sum = (
  tok 0 false (k.Name (codes "a")) ∷ tok 2 false (k.Assign assign.Set)
      ∷ tok 4 false (k.Name (codes "b")) ∷ tok 6 false (k.Infix pair.Add)
      ∷ tok 8 false (k.Number 1) ∷ tok 9 false k.Semi ∷ tok 10 false k.End ∷ [],
  (tree.more_stmts (tree.value 0 (tree.assign 0 assign.Set (tree.name_place 0 (codes "a"))
      (tree.pair 4 pair.Add (tree.name 4 (codes "b")) (tree.number 8 (pos 1))))) tree.no_stmts),
)

-- a || b && c == d < e + f * g
abbrev pub signs_bind : Toks × StmtTrees
signs_bind = (
  tok 0 false (k.Name (codes "a")) ∷ tok 2 false (k.Infix pair.Or)
      ∷ tok 5 false (k.Name (codes "b")) ∷ tok 7 false (k.Infix pair.And)
      ∷ tok 10 false (k.Name (codes "c")) ∷ tok 12 false (k.Infix pair.Eq)
      ∷ tok 15 false (k.Name (codes "d")) ∷ tok 17 false (k.Infix pair.Lt)
      ∷ tok 19 false (k.Name (codes "e")) ∷ tok 21 false (k.Infix pair.Add)
      ∷ tok 23 false (k.Name (codes "f")) ∷ tok 25 false (k.Infix pair.Mul)
      ∷ tok 27 false (k.Name (codes "g")) ∷ tok 28 false k.End ∷ [],
  (tree.more_stmts (tree.value 0 (tree.pair 0 pair.Or (tree.name 0 (codes "a")) (tree.pair 5
      pair.And (tree.name 5 (codes "b")) (tree.pair 10 pair.Eq (tree.name 10 (codes "c")) (tree.pair
      15 pair.Lt (tree.name 15 (codes "d")) (tree.pair 19 pair.Add (tree.name 19 (codes "e"))
      (tree.pair 23 pair.Mul (tree.name 23 (codes "f")) (tree.name 27 (codes "g")))))))))
      tree.no_stmts),
)

-- a - b - c
abbrev pub from_the_left : Toks × StmtTrees
from_the_left = (
  tok 0 false (k.Name (codes "a")) ∷ tok 2 false (k.Infix pair.Sub)
      ∷ tok 4 false (k.Name (codes "b")) ∷ tok 6 false (k.Infix pair.Sub)
      ∷ tok 8 false (k.Name (codes "c")) ∷ tok 9 false k.End ∷ [],
  (tree.more_stmts (tree.value 0 (tree.pair 0 pair.Sub (tree.pair 0 pair.Sub (tree.name 0 (codes
      "a")) (tree.name 4 (codes "b"))) (tree.name 8 (codes "c")))) tree.no_stmts),
)

-- a | b
abbrev pub two_lines : Toks × StmtTrees
two_lines = (
  tok 0 false (k.Name (codes "a")) ∷ tok 2 true (k.Name (codes "b")) ∷ tok 3 false k.End ∷ [],
  (tree.more_stmts (tree.value 0 (tree.name 0 (codes "a"))) (tree.more_stmts (tree.value 2
      (tree.name 2 (codes "b"))) tree.no_stmts)),
)

-- a | (b)
abbrev pub goes_on : Toks × StmtTrees
goes_on = (
  tok 0 false (k.Name (codes "a")) ∷ tok 2 true k.OpenRound
      ∷ tok 3 false (k.Name (codes "b")) ∷ tok 4 false k.CloseRound ∷ tok 5 false k.End ∷ [],
  (tree.more_stmts (tree.value 0 (tree.call 0 (tree.name 0 (codes "a")) (tree.more_exprs
      (tree.name 3 (codes "b")) tree.no_exprs))) tree.no_stmts),
)

-- a | ++b
abbrev pub steps : Toks × StmtTrees
steps = (
  tok 0 false (k.Name (codes "a")) ∷ tok 2 true (k.Step true)
      ∷ tok 4 false (k.Name (codes "b")) ∷ tok 5 false k.End ∷ [],
  (tree.more_stmts (tree.value 0 (tree.name 0 (codes "a"))) (tree.more_stmts (tree.value 2
      (tree.step 2 true true (tree.name_place 4 (codes "b")))) tree.no_stmts)),
)

-- a++
abbrev pub behind : Toks × StmtTrees
behind = (
  tok 0 false (k.Name (codes "a")) ∷ tok 1 false (k.Step true) ∷ tok 3 false k.End ∷ [],
  (tree.more_stmts (tree.value 0 (tree.step 0 true false (tree.name_place 0 (codes "a"))))
      tree.no_stmts),
)

-- --a.b[0]
abbrev pub before : Toks × StmtTrees
before = (
  tok 0 false (k.Step false) ∷ tok 2 false (k.Name (codes "a")) ∷ tok 3 false k.Dot
      ∷ tok 4 false (k.Name (codes "b")) ∷ tok 5 false k.OpenSquare ∷ tok 6 false (k.Number 0)
      ∷ tok 7 false k.CloseSquare ∷ tok 8 false k.End ∷ [],
  (tree.more_stmts (tree.value 0 (tree.step 0 false true (tree.index_place 2 (tree.member 2
      (tree.name 2 (codes "a")) (codes "b")) (tree.number 6 (pos 0))))) tree.no_stmts),
)

-- -a * !b
abbrev pub minus : Toks × StmtTrees
minus = (
  tok 0 false (k.Infix pair.Sub) ∷ tok 1 false (k.Name (codes "a"))
      ∷ tok 3 false (k.Infix pair.Mul) ∷ tok 5 false k.Bang ∷ tok 6 false (k.Name (codes "b"))
      ∷ tok 7 false k.End ∷ [],
  (tree.more_stmts (tree.value 0 (tree.pair 0 pair.Mul (tree.one 0 one.Minus (tree.name 1 (codes
      "a"))) (tree.one 5 one.Not (tree.name 6 (codes "b"))))) tree.no_stmts),
)

-- typeof a.b === 'text'
abbrev pub typeof_ : Toks × StmtTrees
typeof_ = (
  tok 0 false k.TypeOf ∷ tok 7 false (k.Name (codes "a")) ∷ tok 8 false k.Dot
      ∷ tok 9 false (k.Name (codes "b")) ∷ tok 11 false (k.Infix pair.Same)
      ∷ tok 15 false (k.Text (codes "text")) ∷ tok 21 false k.End ∷ [],
  (tree.more_stmts (tree.value 0 (tree.pair 0 pair.Same (tree.one 0 one.TypeOf (tree.member 7
      (tree.name 7 (codes "a")) (codes "b"))) (tree.text 15 (codes "text")))) tree.no_stmts),
)

-- a ? b : c ? d : e
abbrev pub choice : Toks × StmtTrees
choice = (
  tok 0 false (k.Name (codes "a")) ∷ tok 2 false k.Quest ∷ tok 4 false (k.Name (codes "b"))
      ∷ tok 6 false k.Colon ∷ tok 8 false (k.Name (codes "c")) ∷ tok 10 false k.Quest
      ∷ tok 12 false (k.Name (codes "d")) ∷ tok 14 false k.Colon
      ∷ tok 16 false (k.Name (codes "e")) ∷ tok 17 false k.End ∷ [],
  (tree.more_stmts (tree.value 0 (tree.choose 0 (tree.name 0 (codes "a")) (tree.name 4 (codes
      "b")) (tree.choose 8 (tree.name 8 (codes "c")) (tree.name 12 (codes "d")) (tree.name 16 (codes
      "e"))))) tree.no_stmts),
)

-- x => x + 1
abbrev pub arrow : Toks × StmtTrees
arrow = (
  tok 0 false (k.Name (codes "x")) ∷ tok 2 false k.Arrow ∷ tok 5 false (k.Name (codes "x"))
      ∷ tok 7 false (k.Infix pair.Add) ∷ tok 9 false (k.Number 1) ∷ tok 10 false k.End ∷ [],
  (tree.more_stmts (tree.value 0 (tree.arrow 0 ((named 0 (codes "x"))
      ∷ []) (tree.value_body (tree.pair 5 pair.Add (tree.name 5 (codes "x")) (tree.number 9 (pos
      1)))))) tree.no_stmts),
)

-- (x, y) => { return x; }
abbrev pub arrow_two : Toks × StmtTrees
arrow_two = (
  tok 0 false k.OpenRound ∷ tok 1 false (k.Name (codes "x")) ∷ tok 2 false k.Comma
      ∷ tok 4 false (k.Name (codes "y")) ∷ tok 5 false k.CloseRound ∷ tok 7 false k.Arrow
      ∷ tok 10 false k.OpenBrace ∷ tok 12 false k.Return ∷ tok 19 false (k.Name (codes "x"))
      ∷ tok 20 false k.Semi ∷ tok 22 false k.CloseBrace ∷ tok 23 false k.End ∷ [],
  (tree.more_stmts (tree.value 0 (tree.arrow 0 ((named 1 (codes "x")) ∷ (named 4 (codes "y"))
      ∷ []) (tree.block_body (tree.more_stmts (tree.return_ 12 (tree.some_expr (tree.name 19 (codes
      "x")))) tree.no_stmts)))) tree.no_stmts),
)

-- () => 0
abbrev pub arrow_none : Toks × StmtTrees
arrow_none = (
  tok 0 false k.OpenRound ∷ tok 1 false k.CloseRound ∷ tok 3 false k.Arrow
      ∷ tok 6 false (k.Number 0) ∷ tok 7 false k.End ∷ [],
  (tree.more_stmts (tree.value 0 (tree.arrow 0 [] (tree.value_body (tree.number 6 (pos 0)))))
      tree.no_stmts),
)

-- (a)
abbrev pub in_round : Toks × StmtTrees
in_round = (
  tok 0 false k.OpenRound ∷ tok 1 false (k.Name (codes "a")) ∷ tok 2 false k.CloseRound
      ∷ tok 3 false k.End ∷ [],
  (tree.more_stmts (tree.value 0 (tree.round 0 (tree.name 1 (codes "a")))) tree.no_stmts),
)

-- (a)(b, c)
abbrev pub call_it : Toks × StmtTrees
call_it = (
  tok 0 false k.OpenRound ∷ tok 1 false (k.Name (codes "a")) ∷ tok 2 false k.CloseRound
      ∷ tok 3 false k.OpenRound ∷ tok 4 false (k.Name (codes "b")) ∷ tok 5 false k.Comma
      ∷ tok 7 false (k.Name (codes "c")) ∷ tok 8 false k.CloseRound ∷ tok 9 false k.End ∷ [],
  (tree.more_stmts (tree.value 0 (tree.call 0 (tree.round 0 (tree.name 1 (codes "a")))
      (tree.more_exprs (tree.name 4 (codes "b")) (tree.more_exprs (tree.name 7 (codes "c"))
      tree.no_exprs)))) tree.no_stmts),
)

-- o.if = { if: 1, 'a b': 2, 3: [1, 2,], }
abbrev pub keys : Toks × StmtTrees
keys = (
  tok 0 false (k.Name (codes "o")) ∷ tok 1 false k.Dot ∷ tok 2 false k.If
      ∷ tok 5 false (k.Assign assign.Set) ∷ tok 7 false k.OpenBrace ∷ tok 9 false k.If
      ∷ tok 11 false k.Colon ∷ tok 13 false (k.Number 1) ∷ tok 14 false k.Comma
      ∷ tok 16 false (k.Text (codes "a b")) ∷ tok 21 false k.Colon ∷ tok 23 false (k.Number 2)
      ∷ tok 24 false k.Comma ∷ tok 26 false (k.Number 3) ∷ tok 27 false k.Colon
      ∷ tok 29 false k.OpenSquare ∷ tok 30 false (k.Number 1) ∷ tok 31 false k.Comma
      ∷ tok 33 false (k.Number 2) ∷ tok 34 false k.Comma ∷ tok 35 false k.CloseSquare
      ∷ tok 36 false k.Comma ∷ tok 38 false k.CloseBrace ∷ tok 39 false k.End ∷ [],
  (tree.more_stmts (tree.value 0 (tree.assign 0 assign.Set (tree.member_place 0 (tree.name 0
      (codes "o")) (codes "if")) (tree.object 7 (tree.more_members 9 (codes "if") (tree.number 13
      (pos 1)) (tree.more_members 16 (codes "a b") (tree.number 23 (pos 2)) (tree.more_members 26
      (decimal 3) (tree.list 29 (tree.more_exprs (tree.number 30 (pos 1)) (tree.more_exprs
      (tree.number 33 (pos 2)) tree.no_exprs))) tree.no_members)))))) tree.no_stmts),
)

-- f(function () {})
abbrev pub unnamed : Toks × StmtTrees
unnamed = (
  tok 0 false (k.Name (codes "f")) ∷ tok 1 false k.OpenRound ∷ tok 2 false k.Function
      ∷ tok 11 false k.OpenRound ∷ tok 12 false k.CloseRound ∷ tok 14 false k.OpenBrace
      ∷ tok 15 false k.CloseBrace ∷ tok 16 false k.CloseRound ∷ tok 17 false k.End ∷ [],
  (tree.more_stmts (tree.value 0 (tree.call 0 (tree.name 0 (codes "f")) (tree.more_exprs
      (tree.function 2 None [] tree.no_stmts) tree.no_exprs))) tree.no_stmts),
)

-- f(function g(a) { return; })
abbrev pub named_one : Toks × StmtTrees
named_one = (
  tok 0 false (k.Name (codes "f")) ∷ tok 1 false k.OpenRound ∷ tok 2 false k.Function
      ∷ tok 11 false (k.Name (codes "g")) ∷ tok 12 false k.OpenRound
      ∷ tok 13 false (k.Name (codes "a")) ∷ tok 14 false k.CloseRound ∷ tok 16 false k.OpenBrace
      ∷ tok 18 false k.Return ∷ tok 24 false k.Semi ∷ tok 26 false k.CloseBrace
      ∷ tok 27 false k.CloseRound ∷ tok 28 false k.End ∷ [],
  (tree.more_stmts (tree.value 0 (tree.call 0 (tree.name 0 (codes "f")) (tree.more_exprs
      (tree.function 2 (Some (named 11 (codes "g"))) ((named 13 (codes "a"))
      ∷ []) (tree.more_stmts (tree.return_ 18 tree.no_expr) tree.no_stmts)) tree.no_exprs)))
      tree.no_stmts),
)

-- function f(a, b) { return a }
abbrev pub a_function : Toks × StmtTrees
a_function = (
  tok 0 false k.Function ∷ tok 9 false (k.Name (codes "f")) ∷ tok 10 false k.OpenRound
      ∷ tok 11 false (k.Name (codes "a")) ∷ tok 12 false k.Comma
      ∷ tok 14 false (k.Name (codes "b")) ∷ tok 15 false k.CloseRound ∷ tok 17 false k.OpenBrace
      ∷ tok 19 false k.Return ∷ tok 26 false (k.Name (codes "a")) ∷ tok 28 false k.CloseBrace
      ∷ tok 29 false k.End ∷ [],
  (tree.more_stmts (tree.named_function 0 (named 9 (codes "f")) ((named 11 (codes "a"))
      ∷ (named 14 (codes "b")) ∷ []) (tree.more_stmts (tree.return_ 19 (tree.some_expr (tree.name 26
      (codes "a")))) tree.no_stmts)) tree.no_stmts),
)

-- const a = 1, b = a;
abbrev pub constant : Toks × StmtTrees
constant = (
  tok 0 false (k.Bind binding.Const) ∷ tok 6 false (k.Name (codes "a"))
      ∷ tok 8 false (k.Assign assign.Set) ∷ tok 10 false (k.Number 1) ∷ tok 11 false k.Comma
      ∷ tok 13 false (k.Name (codes "b")) ∷ tok 15 false (k.Assign assign.Set)
      ∷ tok 17 false (k.Name (codes "a")) ∷ tok 18 false k.Semi ∷ tok 19 false k.End ∷ [],
  (tree.more_stmts (tree.declare 0 binding.Const (tree.more_declarators (named 6 (codes "a"))
      (tree.some_expr (tree.number 10 (pos 1))) (tree.more_declarators (named 13 (codes "b"))
      (tree.some_expr (tree.name 17 (codes "a"))) tree.no_declarators))) tree.no_stmts),
)

-- var a, b = 2 | let c
abbrev pub variables : Toks × StmtTrees
variables = (
  tok 0 false (k.Bind binding.Var) ∷ tok 4 false (k.Name (codes "a")) ∷ tok 5 false k.Comma
      ∷ tok 7 false (k.Name (codes "b")) ∷ tok 9 false (k.Assign assign.Set)
      ∷ tok 11 false (k.Number 2) ∷ tok 13 true (k.Bind binding.Let)
      ∷ tok 17 false (k.Name (codes "c")) ∷ tok 18 false k.End ∷ [],
  (tree.more_stmts (tree.declare 0 binding.Var (tree.more_declarators (named 4 (codes "a"))
      tree.no_expr (tree.more_declarators (named 7 (codes "b")) (tree.some_expr (tree.number 11 (pos
      2))) tree.no_declarators))) (tree.more_stmts (tree.declare 13 binding.Let
      (tree.more_declarators (named 17 (codes "c")) tree.no_expr tree.no_declarators))
      tree.no_stmts)),
)

-- if (a) if (b) c; else d
abbrev pub else_near : Toks × StmtTrees
else_near = (
  tok 0 false k.If ∷ tok 3 false k.OpenRound ∷ tok 4 false (k.Name (codes "a"))
      ∷ tok 5 false k.CloseRound ∷ tok 7 false k.If ∷ tok 10 false k.OpenRound
      ∷ tok 11 false (k.Name (codes "b")) ∷ tok 12 false k.CloseRound
      ∷ tok 14 false (k.Name (codes "c")) ∷ tok 15 false k.Semi ∷ tok 17 false k.Else
      ∷ tok 22 false (k.Name (codes "d")) ∷ tok 23 false k.End ∷ [],
  (tree.more_stmts (tree.if_ 0 (tree.name 4 (codes "a")) (tree.if_ 7 (tree.name 11 (codes "b"))
      (tree.value 14 (tree.name 14 (codes "c"))) (tree.some_stmt (tree.value 22 (tree.name 22 (codes
      "d"))))) tree.no_stmt) tree.no_stmts),
)

-- while (true) { if (a) break; continue }
abbrev pub a_loop : Toks × StmtTrees
a_loop = (
  tok 0 false k.While ∷ tok 6 false k.OpenRound ∷ tok 7 false (k.Value k.True)
      ∷ tok 11 false k.CloseRound ∷ tok 13 false k.OpenBrace ∷ tok 15 false k.If
      ∷ tok 18 false k.OpenRound ∷ tok 19 false (k.Name (codes "a")) ∷ tok 20 false k.CloseRound
      ∷ tok 22 false k.Break ∷ tok 27 false k.Semi ∷ tok 29 false k.Continue
      ∷ tok 38 false k.CloseBrace ∷ tok 39 false k.End ∷ [],
  (tree.more_stmts (tree.while_ 0 (tree.bool 7 true) (tree.block 13 (tree.more_stmts (tree.if_ 15
      (tree.name 19 (codes "a")) (tree.break_ 22) tree.no_stmt) (tree.more_stmts (tree.continue_ 29)
      tree.no_stmts)))) tree.no_stmts),
)

-- do a(); while (b)
abbrev pub do_it : Toks × StmtTrees
do_it = (
  tok 0 false k.Do ∷ tok 3 false (k.Name (codes "a")) ∷ tok 4 false k.OpenRound
      ∷ tok 5 false k.CloseRound ∷ tok 6 false k.Semi ∷ tok 8 false k.While
      ∷ tok 14 false k.OpenRound ∷ tok 15 false (k.Name (codes "b")) ∷ tok 16 false k.CloseRound
      ∷ tok 17 false k.End ∷ [],
  (tree.more_stmts (tree.do_while 0 (tree.value 3 (tree.call 3 (tree.name 3 (codes "a"))
      tree.no_exprs)) (tree.name 15 (codes "b"))) tree.no_stmts),
)

-- for (;;) ;
abbrev pub for_all : Toks × StmtTrees
for_all = (
  tok 0 false k.For ∷ tok 4 false k.OpenRound ∷ tok 5 false k.Semi ∷ tok 6 false k.Semi
      ∷ tok 7 false k.CloseRound ∷ tok 9 false k.Semi ∷ tok 10 false k.End ∷ [],
  (tree.more_stmts (tree.for_ 0 tree.no_init tree.no_expr tree.no_expr (tree.empty 9))
      tree.no_stmts),
)

-- for (var i = 0, n; i < n; i++) f(i)
abbrev pub for_some : Toks × StmtTrees
for_some = (
  tok 0 false k.For ∷ tok 4 false k.OpenRound ∷ tok 5 false (k.Bind binding.Var)
      ∷ tok 9 false (k.Name (codes "i")) ∷ tok 11 false (k.Assign assign.Set)
      ∷ tok 13 false (k.Number 0) ∷ tok 14 false k.Comma ∷ tok 16 false (k.Name (codes "n"))
      ∷ tok 17 false k.Semi ∷ tok 19 false (k.Name (codes "i")) ∷ tok 21 false (k.Infix pair.Lt)
      ∷ tok 23 false (k.Name (codes "n")) ∷ tok 24 false k.Semi
      ∷ tok 26 false (k.Name (codes "i")) ∷ tok 27 false (k.Step true)
      ∷ tok 29 false k.CloseRound ∷ tok 31 false (k.Name (codes "f")) ∷ tok 32 false k.OpenRound
      ∷ tok 33 false (k.Name (codes "i")) ∷ tok 34 false k.CloseRound ∷ tok 35 false k.End ∷ [],
  (tree.more_stmts (tree.for_ 0 (tree.declare_init binding.Var (tree.more_declarators (named 9
      (codes "i")) (tree.some_expr (tree.number 13 (pos 0))) (tree.more_declarators (named 16 (codes
      "n")) tree.no_expr tree.no_declarators))) (tree.some_expr (tree.pair 19 pair.Lt (tree.name 19
      (codes "i")) (tree.name 23 (codes "n")))) (tree.some_expr (tree.step 26 true false
      (tree.name_place 26 (codes "i")))) (tree.value 31 (tree.call 31 (tree.name 31 (codes "f"))
      (tree.more_exprs (tree.name 33 (codes "i")) tree.no_exprs)))) tree.no_stmts),
)

-- for (i = 0; ; ) { break }
abbrev pub for_value : Toks × StmtTrees
for_value = (
  tok 0 false k.For ∷ tok 4 false k.OpenRound ∷ tok 5 false (k.Name (codes "i"))
      ∷ tok 7 false (k.Assign assign.Set) ∷ tok 9 false (k.Number 0) ∷ tok 10 false k.Semi
      ∷ tok 12 false k.Semi ∷ tok 14 false k.CloseRound ∷ tok 16 false k.OpenBrace
      ∷ tok 18 false k.Break ∷ tok 24 false k.CloseBrace ∷ tok 25 false k.End ∷ [],
  (tree.more_stmts (tree.for_ 0 (tree.value_init (tree.assign 5 assign.Set (tree.name_place 5
      (codes "i")) (tree.number 9 (pos 0)))) tree.no_expr tree.no_expr (tree.block 16
      (tree.more_stmts (tree.break_ 18) tree.no_stmts))) tree.no_stmts),
)

-- for (const k in o) f(k)
abbrev pub for_keys : Toks × StmtTrees
for_keys = (
  tok 0 false k.For ∷ tok 4 false k.OpenRound ∷ tok 5 false (k.Bind binding.Const)
      ∷ tok 11 false (k.Name (codes "k")) ∷ tok 13 false k.In ∷ tok 16 false (k.Name (codes "o"))
      ∷ tok 17 false k.CloseRound ∷ tok 19 false (k.Name (codes "f")) ∷ tok 20 false k.OpenRound
      ∷ tok 21 false (k.Name (codes "k")) ∷ tok 22 false k.CloseRound ∷ tok 23 false k.End ∷ [],
  (tree.more_stmts (tree.for_in 0 binding.Const (named 11 (codes "k")) (tree.name 16 (codes "o"))
      (tree.value 19 (tree.call 19 (tree.name 19 (codes "f")) (tree.more_exprs (tree.name 21 (codes
      "k")) tree.no_exprs)))) tree.no_stmts),
)

-- return | a
abbrev pub a_return : Toks × StmtTrees
a_return = (
  tok 0 false k.Return ∷ tok 7 true (k.Name (codes "a")) ∷ tok 8 false k.End ∷ [],
  (tree.more_stmts (tree.return_ 0 tree.no_expr) (tree.more_stmts (tree.value 7 (tree.name 7
      (codes "a"))) tree.no_stmts)),
)

--
abbrev pub nothing : Toks × StmtTrees
nothing = (
  tok 0 false k.End ∷ [],
  tree.no_stmts,
)

-- { ; }
abbrev pub block : Toks × StmtTrees
block = (
  tok 0 false k.OpenBrace ∷ tok 2 false k.Semi ∷ tok 4 false k.CloseBrace
      ∷ tok 5 false k.End ∷ [],
  (tree.more_stmts (tree.block 0 (tree.more_stmts (tree.empty 2) tree.no_stmts)) tree.no_stmts),
)

infixr 20 ◌&◌
-- each of these tokens is read as its script
pub data AreRead : List (Toks × StmtTrees) → Type 0 where
  none_read : AreRead []
  ◌&◌ : {w : Toks × StmtTrees} {ws : List (Toks × StmtTrees)} →
      Reads w.0 w.1 → AreRead ws → AreRead (w ∷ ws)

-- all of them
abbrev pub worked : List (Toks × StmtTrees)
worked =
    a_sum ∷ signs_bind ∷ from_the_left ∷ two_lines ∷ goes_on ∷ steps ∷ behind ∷ before ∷ minus
    ∷ typeof_ ∷ choice ∷ arrow ∷ arrow_two ∷ arrow_none ∷ in_round ∷ call_it ∷ keys ∷ unnamed
    ∷ named_one ∷ a_function ∷ constant ∷ variables ∷ else_near ∷ a_loop ∷ do_it ∷ for_all
    ∷ for_some ∷ for_value ∷ for_keys ∷ a_return ∷ nothing ∷ block ∷ []
