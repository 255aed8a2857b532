-- What the machine can expect next.
use Rattle.std.specs.Prelude.{ℕ, List, Bool}
use Rattle.sjs_syntax.specs.declared.statements.Binding.{Binding}
use Rattle.sjs_table.specs.Notes.{Note}

-- what an operand stands for: it begins an expression, or it is one of several between signs, or it
-- is the place behind `++` or `--`
pub data Mode : Type 0 where
  First Then Before : Mode

-- a token that must stand somewhere
pub data Mark : Type 0 where
  OpenRound CloseRound OpenBrace CloseBrace CloseSquare Semi Colon Arrow While End : Mark

-- a symbol: what is expected
pub data Sym : Type 0 where
  -- nothing: a note is put out
  Put : Note → Sym
  Want : Mark → Sym
  -- a name
  Name : Sym
  -- statements up to a closing brace or the end, and one; in a loop of the same function where true
  Stmts Stmt : Bool → Sym
  -- `else`, or the end of the `if` at this byte
  Else : Bool → ℕ → Sym
  -- the end of a statement
  End : Sym
  -- a value for the `return` at this byte, or its end
  Return : ℕ → Sym
  -- a declared name with its value and all behind it, its value, and more of them behind a comma
  Decl Given Decls : Binding → Sym
  -- the inside of the `for` at this byte; the name behind its declaring word; what is behind that
  Init : ℕ → Sym
  ForName : ℕ → Binding → Sym
  ForNext : ℕ → Binding → ℕ → List ℕ → Sym
  -- the test of a `for` with its semicolon, and what ends a turn with the closing bracket
  Test Last : Sym
  -- an expression
  Expr : Sym
  -- an operand with the signs before it, and operands with signs up to a level between them
  Operand : Sym
  Level : ℕ → Sym
  -- an operand without signs before it
  Prim : Mode → Sym
  -- what carries an operand on: whether it is a place so far, and the byte at which it begins
  After : Mode → Bool → ℕ → Sym
  -- more operands up to the first level, behind some of the second that began at this byte
  Tail : ℕ → ℕ → ℕ → Sym
  -- `?`, or the end of the expression that began at this byte
  Choose : ℕ → Sym
  -- what is behind a name, an open bracket, a bracket and a name, and a name in brackets, where an
  -- arrow may come
  AfterName : ℕ → List ℕ → Sym
  Open : ℕ → Sym
  OpenName Closed : ℕ → ℕ → List ℕ → Sym
  -- the body of the arrow that began at this byte
  Body : ℕ → Sym
  -- what is behind `function`
  Function : ℕ → Sym
  -- the parameters and the body of a function, whose note is put out then
  Code : Note → Sym
  -- names, and more of them; and parameters up to the closing bracket
  Names MoreNames Params : Sym
  -- arguments, elements of a list and members of an object up to the closing bracket, and more of
  -- them behind a comma
  Args MoreArgs Items MoreItems Members MoreMembers : Sym
  -- the word behind a dot, in an operand that began at this byte
  Word : ℕ → Sym
