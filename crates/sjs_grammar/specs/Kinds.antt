-- What a token is, as far as the grammar looks at it.
use Rattle.std.specs.Prelude.{ℕ, List, Bool, true, false, Option, Some, None, codes, decimal}
use Rattle.sjs_syntax.specs.declared.signs.AssignSign.{AssignSign}
use Rattle.sjs_syntax.specs.declared.signs.PairSign.{PairSign}
use Rattle.sjs_syntax.specs.declared.signs.PairSign.TheVariants as pair
use Rattle.sjs_syntax.specs.declared.statements.Binding.{Binding}
use Rattle.sjs_syntax.specs.declared.statements.Binding.TheVariants as binding

-- a word that stands for a value
pub data Lit : Type 0 where
  True False Null Undefined : Lit

-- what a token is: signs that the grammar treats alike are one kind, with the sign beside it
pub data Kind : Type 0 where
  Name : List ℕ → Kind
  Number : ℕ → Kind
  Text : List ℕ → Kind
  Value : Lit → Kind
  -- { } ( ) [ ]
  OpenBrace CloseBrace OpenRound CloseRound OpenSquare CloseSquare : Kind
  -- ; , . ? : =>
  Semi Comma Dot Quest Colon Arrow : Kind
  Assign : AssignSign → Kind
  Infix : PairSign → Kind
  Bang TypeOf : Kind
  -- `++` where true, else `--`
  Step : Bool → Kind
  If Else While Do For In Break Continue Return Function : Kind
  -- var, let or const
  Bind : Binding → Kind
  -- a reserved word that no script has, but as a key
  OutWord : List ℕ → Kind
  -- a sign that no script has
  OutSign : Kind
  -- the end of the text
  End : Kind

-- how a word that stands for a value is written
abbrev pub spelled : Lit → List ℕ
spelled True = codes "true"
spelled False = codes "false"
spelled Null = codes "null"
spelled Undefined = codes "undefined"

-- how the word that begins a declaration is written
abbrev pub spelled_binding : Binding → List ℕ
spelled_binding binding.Var = codes "var"
spelled_binding binding.Let = codes "let"
spelled_binding binding.Const = codes "const"

-- a name or a reserved word, as it is written
abbrev pub word_of : Kind → Option (List ℕ)
word_of (Name x) = Some x
word_of (Value lit) = Some (spelled lit)
word_of TypeOf = Some (codes "typeof")
word_of If = Some (codes "if")
word_of Else = Some (codes "else")
word_of While = Some (codes "while")
word_of Do = Some (codes "do")
word_of For = Some (codes "for")
word_of In = Some (codes "in")
word_of Break = Some (codes "break")
word_of Continue = Some (codes "continue")
word_of Return = Some (codes "return")
word_of Function = Some (codes "function")
word_of (Bind b) = Some (spelled_binding b)
word_of (OutWord w) = Some w
word_of k = None

-- the key that a token is in an object that is written out: a number is its decimal
abbrev pub key_of : Kind → Option (List ℕ)
key_of (Text t) = Some t
key_of (Number n) = Some (decimal n)
key_of k = word_of k

-- how loosely a sign binds its operands: from 0 for `*` to 5 for `||`
abbrev pub level : PairSign → ℕ
level pair.Mul = 0
level pair.Div = 0
level pair.Rem = 0
level pair.Add = 1
level pair.Sub = 1
level pair.Lt = 2
level pair.Gt = 2
level pair.Le = 2
level pair.Ge = 2
level pair.Eq = 3
level pair.Ne = 3
level pair.Same = 3
level pair.NotSame = 3
level pair.And = 4
level pair.Or = 5

-- a name that is declared so needs a value
abbrev pub needs_value : Binding → Bool
needs_value binding.Var = false
needs_value binding.Let = false
needs_value binding.Const = true

-- a token that, where no script can have it, is of a form which is left out
abbrev pub is_left_out : Kind → Bool
is_left_out Comma = true
is_left_out Arrow = true
is_left_out In = true
is_left_out (OutWord w) = true
is_left_out OutSign = true
is_left_out k = false
