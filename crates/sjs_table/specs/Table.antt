-- The table of the machine: what it does at each symbol that is expected and each kind of token.
use Rattle.std.specs.Prelude.{ℕ, suc, pos, List, [], ◌∷◌, Bool, true, false}
use Rattle.std.specs.Prelude.{Option, Some, None}
use Rattle.sjs_syntax.specs.declared.signs.AssignSign.{AssignSign}
use Rattle.sjs_syntax.specs.declared.signs.AssignSign.TheVariants as assign
use Rattle.sjs_syntax.specs.declared.signs.OneSign.TheVariants as one
use Rattle.sjs_syntax.specs.declared.signs.PairSign.{PairSign}
use Rattle.sjs_syntax.specs.declared.signs.PairSign.TheVariants as pair
use Rattle.sjs_syntax.specs.declared.statements.Binding.{Binding}
use Rattle.sjs_grammar.specs.Grammar.{named}
use Rattle.sjs_grammar.specs.Kinds as k
use Rattle.sjs_grammar.specs.Kinds.{Kind, Lit, word_of, key_of, level, needs_value}
use Rattle.sjs_table.specs.Notes as note
use Rattle.sjs_table.specs.Notes.{Note}
use Rattle.sjs_table.specs.Symbols as s
use Rattle.sjs_table.specs.Symbols.{Sym, Mode}
pub use Rattle.sjs_table.specs.Acts.{Act, Take, Pass, Stop, then, first, pass_if, stop_if, want}
pub use Rattle.sjs_table.specs.Acts.{value_note, at_most}

-- a token that begins an operand without signs
abbrev pub prim : Kind → ℕ → Mode → Act
prim (k.Number n) a m = Take (s.Put (note.Number a (pos n)) ∷ s.After m false a ∷ [])
prim (k.Text t) a m = Take (s.Put (note.Text a t) ∷ s.After m false a ∷ [])
prim (k.Value lit) a m = Take (s.Put (value_note a lit) ∷ s.After m false a ∷ [])
prim (k.Name n) a m = Take (s.Put (note.Name a n) ∷ s.After m true a ∷ [])
prim k.OpenRound a m =
    Take (s.Expr ∷ s.Want s.CloseRound ∷ s.Put (note.Round a) ∷ s.After m false a ∷ [])
prim k.OpenSquare a m =
    Take (s.Put note.Exprs ∷ s.Items ∷ s.Put (note.List_ a) ∷ s.After m false a ∷ [])
prim k.OpenBrace a m =
    Take (s.Put note.Members ∷ s.Members ∷ s.Put (note.Object a) ∷ s.After m false a ∷ [])
prim k.Function a m = Take (s.Function a ∷ s.After m false a ∷ [])
prim t a m = Stop

-- a token that begins an operand with the signs before it
abbrev pub operand : Kind → ℕ → Act
operand k.Bang a = Take (s.Operand ∷ s.Put (note.One a one.Not) ∷ [])
operand (k.Infix pair.Sub) a = Take (s.Operand ∷ s.Put (note.One a one.Minus) ∷ [])
operand (k.Infix pair.Add) a = Take (s.Operand ∷ s.Put (note.One a one.Plus) ∷ [])
operand k.TypeOf a = Take (s.Operand ∷ s.Put (note.One a one.TypeOf) ∷ [])
operand (k.Step up) a = Take (s.Prim s.Before ∷ s.Put (note.Step a up true) ∷ [])
operand t a = prim t a s.Then

-- a token that begins an expression: behind a name or a round bracket an arrow may come
abbrev pub expr : Kind → ℕ → Act
expr (k.Name n) a = Take (s.AfterName a n ∷ [])
expr k.OpenRound a = Take (s.Open a ∷ [])
expr (k.Number n) a = prim (k.Number n) a s.First
expr (k.Text t) a = prim (k.Text t) a s.First
expr (k.Value lit) a = prim (k.Value lit) a s.First
expr k.OpenSquare a = prim k.OpenSquare a s.First
expr k.OpenBrace a = prim k.OpenBrace a s.First
expr k.Function a = prim k.Function a s.First
expr t a = then (operand t a) (s.Tail 6 0 a ∷ s.Choose a ∷ [])

-- behind an operand nothing goes on: what was to be a place is one
abbrev pub skip : Mode → Bool → Act
skip s.First p = Pass []
skip s.Then p = Pass []
skip s.Before p = pass_if p

-- a step behind an operand, in the same line where false
abbrev pub step : Bool → Mode → Bool → Bool → ℕ → Act
step true m p up at = skip m p
step false s.First true up at =
    Take (s.Put (note.Step at up false) ∷ s.Tail 6 0 at ∷ s.Choose at ∷ [])
step false s.Then true up at = Take (s.Put (note.Step at up false) ∷ [])
step false m p up at = Stop

-- a sign behind an operand
abbrev pub infix_sign : Mode → Bool → PairSign → ℕ → Act
infix_sign s.First p sign at =
    Take (s.Level (level sign) ∷ s.Put (note.Pair at sign) ∷ s.Tail 6 (suc (level sign)) at
    ∷ s.Choose at ∷ [])
infix_sign m p sign at = skip m p

-- `?` behind an operand
abbrev pub quest : Mode → Bool → ℕ → Act
quest s.First p at =
    Take (s.Expr ∷ s.Want s.Colon ∷ s.Expr ∷ s.Put (note.Choose at) ∷ [])
quest m p at = skip m p

-- an assignment behind an operand
abbrev pub assigned : Mode → Bool → AssignSign → ℕ → Act
assigned s.First true sign at = Take (s.Expr ∷ s.Put (note.Assign at sign) ∷ [])
assigned s.First false sign at = Stop
assigned m p sign at = skip m p

-- `=>` behind an operand
abbrev pub no_arrow : Mode → Bool → Act
no_arrow s.First p = Stop
no_arrow m p = skip m p

-- behind an operand that began at this byte, and may be a place
abbrev pub after : Kind → Bool → Mode → Bool → ℕ → Act
after k.Dot x m p at = Take (s.Word at ∷ s.After m true at ∷ [])
after k.OpenRound x m p at =
    Take (s.Put note.Exprs ∷ s.Args ∷ s.Put (note.Call at) ∷ s.After m false at ∷ [])
after k.OpenSquare x m p at =
    Take (s.Expr ∷ s.Want s.CloseSquare ∷ s.Put (note.Index at) ∷ s.After m true at ∷ [])
after (k.Step up) x m p at = step x m p up at
after (k.Infix sign) x m p at = infix_sign m p sign at
after k.Quest x m p at = quest m p at
after (k.Assign sign) x m p at = assigned m p sign at
after k.Arrow x m p at = no_arrow m p
after t x m p at = skip m p

-- a sign behind operands of a level, where those up to another level are read: a looser sign is
-- left to the next symbol
abbrev pub sign_in : Bool → Bool → PairSign → ℕ → ℕ → Act
sign_in true true sign n at =
    Take (s.Level (level sign) ∷ s.Put (note.Pair at sign) ∷ s.Tail n (suc (level sign)) at ∷ [])
sign_in true false sign n at = Stop
sign_in false tight sign n at = Pass []

-- behind operands of a level, where those up to another level are read
abbrev pub tail : Kind → ℕ → ℕ → ℕ → Act
tail (k.Infix sign) n m at =
    sign_in (at_most (suc (level sign)) n) (at_most m (suc (level sign))) sign n at
tail t n m at = Pass []

-- behind operands with all their signs
abbrev pub choose : Kind → ℕ → Act
choose k.Quest at = Take (s.Expr ∷ s.Want s.Colon ∷ s.Expr ∷ s.Put (note.Choose at) ∷ [])
choose (k.Infix sign) at = Stop
choose (k.Assign sign) at = Stop
choose k.Arrow at = Stop
choose t at = Pass []

-- an arrow with one parameter
abbrev pub arrow_of : ℕ → ℕ → List ℕ → Act
arrow_of at a n = Take (s.Put note.Params ∷ s.Put (note.Param (named a n)) ∷ s.Body at ∷ [])

-- behind a name that begins an expression
abbrev pub after_name : Kind → Bool → ℕ → List ℕ → Act
after_name k.Arrow x a n = arrow_of a a n
after_name t x a n = first (note.Name a n) (after t x s.First true a)

-- an expression in round brackets, behind it
abbrev pub in_round : ℕ → List Sym
in_round a = s.Want s.CloseRound ∷ s.Put (note.Round a) ∷ s.After s.First false a ∷ []

-- behind a round bracket that begins an expression
abbrev pub opened : Kind → ℕ → ℕ → Act
opened k.CloseRound b a = Take (s.Want s.Arrow ∷ s.Put note.Params ∷ s.Body a ∷ [])
opened (k.Name n) b a = Take (s.OpenName a b n ∷ [])
opened t b a = then (expr t b) (in_round a)

-- behind a round bracket and a name
abbrev pub open_name : Kind → Bool → ℕ → ℕ → List ℕ → Act
open_name k.Comma x a b n =
    Take (s.Put note.Params ∷ s.Put (note.Param (named b n)) ∷ s.Names ∷ s.Want s.CloseRound
    ∷ s.Want s.Arrow ∷ s.Body a ∷ [])
open_name k.CloseRound x a b n = Take (s.Closed a b n ∷ [])
open_name t x a b n = then (after_name t x b n) (in_round a)

-- behind a name in round brackets
abbrev pub closed : Kind → Bool → ℕ → ℕ → List ℕ → Act
closed k.Arrow x a b n = arrow_of a b n
closed t x a b n =
    first (note.Name b n) (first (note.Round a) (after t x s.First false a))

-- the body of an arrow
abbrev pub body : Kind → ℕ → ℕ → Act
body k.OpenBrace b a =
    Take (s.Put note.Stmts ∷ s.Stmts false ∷ s.Want s.CloseBrace ∷ s.Put (note.ArrowBlock a) ∷ [])
body t b a = then (expr t b) (s.Put (note.Arrow a) ∷ [])

-- the parameters and the body of a function
abbrev pub code : Kind → Note → Act
code k.OpenRound n =
    Take (s.Put note.Params ∷ s.Params ∷ s.Want s.OpenBrace ∷ s.Put note.Stmts ∷ s.Stmts false
    ∷ s.Want s.CloseBrace ∷ s.Put n ∷ [])
code t n = Stop

-- behind `function` in an expression
abbrev pub function : Kind → ℕ → ℕ → Act
function (k.Name n) b a =
    Take (s.Put (note.Named_ (named b n)) ∷ s.Code (note.FunctionNamed a) ∷ [])
function t b a = code t (note.Function a)

-- a token that begins a statement
abbrev pub stmt : Kind → Bool → ℕ → Act
stmt k.OpenBrace l a =
    Take (s.Put note.Stmts ∷ s.Stmts l ∷ s.Want s.CloseBrace ∷ s.Put (note.Block a) ∷ [])
stmt k.Semi l a = Take (s.Put (note.Empty a) ∷ [])
stmt (k.Bind d) l a =
    Take (s.Put note.Decls ∷ s.Decl d ∷ s.End ∷ s.Put (note.Declare a d) ∷ [])
stmt k.Function l a = Take (s.Name ∷ s.Code (note.FunctionStmt a) ∷ [])
stmt k.If l a =
    Take (s.Want s.OpenRound ∷ s.Expr ∷ s.Want s.CloseRound ∷ s.Stmt l ∷ s.Else l a ∷ [])
stmt k.While l a =
    Take (s.Want s.OpenRound ∷ s.Expr ∷ s.Want s.CloseRound ∷ s.Stmt true
    ∷ s.Put (note.While a) ∷ [])
stmt k.Do l a =
    Take (s.Stmt true ∷ s.Want s.While ∷ s.Want s.OpenRound ∷ s.Expr ∷ s.Want s.CloseRound
    ∷ s.End ∷ s.Put (note.DoWhile a) ∷ [])
stmt k.For l a = Take (s.Want s.OpenRound ∷ s.Init a ∷ [])
stmt k.Break true a = Take (s.End ∷ s.Put (note.Break a) ∷ [])
stmt k.Break false a = Stop
stmt k.Continue true a = Take (s.End ∷ s.Put (note.Continue a) ∷ [])
stmt k.Continue false a = Stop
stmt k.Return l a = Take (s.Return a ∷ [])
stmt t l a = then (expr t a) (s.End ∷ s.Put (note.Value a) ∷ [])

-- statements up to a closing brace or the end
abbrev pub stmts : Kind → Bool → ℕ → Act
stmts k.CloseBrace l a = Pass []
stmts k.End l a = Pass []
stmts t l a = then (stmt t l a) (s.Put note.Stmt ∷ s.Stmts l ∷ [])

-- behind the statement of an `if`
abbrev pub else : Kind → Bool → ℕ → Act
else k.Else l a = Take (s.Stmt l ∷ s.Put (note.IfElse a) ∷ [])
else t l a = Pass (note.If a ∷ [])

-- the end of a statement
abbrev pub end : Kind → Bool → Act
end k.Semi x = Take []
end k.CloseBrace x = Pass []
end k.End x = Pass []
end t x = pass_if x

-- behind `return`, where no end is the next token: a line break ends it
abbrev pub returned : Bool → Kind → ℕ → ℕ → Act
returned true t b a = Pass (note.Return a ∷ [])
returned false t b a = then (expr t b) (s.End ∷ s.Put (note.ReturnValue a) ∷ [])

-- the value of a `return`, or its end
abbrev pub return : Kind → Bool → ℕ → ℕ → Act
return k.Semi x b a = Take (s.Put (note.Return a) ∷ [])
return k.CloseBrace x b a = Pass (note.Return a ∷ [])
return k.End x b a = Pass (note.Return a ∷ [])
return t x b a = returned x t b a

-- a name that is told
abbrev pub name : Kind → ℕ → Act
name (k.Name n) b = Take (s.Put (note.Named_ (named b n)) ∷ [])
name t b = Stop

-- a declared name
abbrev pub decl : Kind → ℕ → Binding → Act
decl (k.Name n) b d =
    Take (s.Put (note.Named_ (named b n)) ∷ s.Given d ∷ s.Decls d ∷ [])
decl t b d = Stop

-- behind a declared name
abbrev pub given : Kind → Binding → Act
given (k.Assign assign.Set) d = Take (s.Expr ∷ s.Put note.Given ∷ [])
given t d = stop_if (needs_value d) (Pass (note.Bare ∷ []))

-- behind a declared name and its value
abbrev pub decls : Kind → Binding → Act
decls k.Comma d = Take (s.Decl d ∷ [])
decls t d = Pass []

-- the rest of a `for` behind its first semicolon
abbrev pub for_rest : ℕ → List Sym
for_rest a = s.Test ∷ s.Last ∷ s.Stmt true ∷ s.Put (note.For a) ∷ []

-- behind `for (`
abbrev pub init : Kind → ℕ → ℕ → Act
init k.Semi b a = Take (s.Put note.NoInit ∷ for_rest a)
init (k.Bind d) b a = Take (s.ForName a d ∷ [])
init t b a = then (expr t b) (s.Put note.ValueInit ∷ s.Want s.Semi ∷ for_rest a)

-- behind `for (var`
abbrev pub for_name : Kind → ℕ → ℕ → Binding → Act
for_name (k.Name n) b a d = Take (s.ForNext a d b n ∷ [])
for_name t b a d = Stop

-- behind `for (var a`
abbrev pub for_next : Kind → ℕ → Binding → ℕ → List ℕ → Act
for_next k.In a d b n =
    Take (s.Put (note.Named_ (named b n)) ∷ s.Expr ∷ s.Want s.CloseRound ∷ s.Stmt true
    ∷ s.Put (note.ForIn a d) ∷ [])
for_next (k.Assign assign.Set) a d b n =
    Take (s.Put note.Decls ∷ s.Put (note.Named_ (named b n)) ∷ s.Expr ∷ s.Put note.Given
    ∷ s.Decls d ∷ s.Put (note.DeclareInit d) ∷ s.Want s.Semi ∷ for_rest a)
for_next k.Comma a d b n =
    stop_if (needs_value d)
    (Take (s.Put note.Decls ∷ s.Put (note.Named_ (named b n)) ∷ s.Put note.Bare ∷ s.Decl d
    ∷ s.Put (note.DeclareInit d) ∷ s.Want s.Semi ∷ for_rest a))
for_next k.Semi a d b n =
    stop_if (needs_value d)
    (Take (s.Put note.Decls ∷ s.Put (note.Named_ (named b n)) ∷ s.Put note.Bare
    ∷ s.Put (note.DeclareInit d) ∷ for_rest a))
for_next t a d b n = Stop

-- up to the second semicolon of a `for`
abbrev pub test : Kind → ℕ → Act
test k.Semi b = Take (s.Put note.Absent ∷ [])
test t b = then (expr t b) (s.Put note.Present ∷ s.Want s.Semi ∷ [])

-- up to the closing bracket of a `for`
abbrev pub last : Kind → ℕ → Act
last k.CloseRound b = Take (s.Put note.Absent ∷ [])
last t b = then (expr t b) (s.Put note.Present ∷ s.Want s.CloseRound ∷ [])

-- one name or more
abbrev pub names : Kind → ℕ → Act
names (k.Name n) b = Take (s.Put (note.Param (named b n)) ∷ s.MoreNames ∷ [])
names t b = Stop

-- a comma and more names, or the closing bracket
abbrev pub more_names : Kind → Act
more_names k.Comma = Take (s.Names ∷ [])
more_names k.CloseRound = Pass []
more_names t = Stop

-- parameters up to their closing bracket
abbrev pub params : Kind → ℕ → Act
params k.CloseRound b = Take []
params t b = then (names t b) (s.Want s.CloseRound ∷ [])

-- arguments up to their closing bracket
abbrev pub args : Kind → ℕ → Act
args k.CloseRound b = Take []
args t b = then (expr t b) (s.Put note.Expr ∷ s.MoreArgs ∷ [])

-- a comma and one more argument, or the closing bracket
abbrev pub more_args : Kind → Act
more_args k.Comma = Take (s.Expr ∷ s.Put note.Expr ∷ s.MoreArgs ∷ [])
more_args k.CloseRound = Take []
more_args t = Stop

-- the elements of a list up to its closing bracket
abbrev pub items : Kind → ℕ → Act
items k.CloseSquare b = Take []
items t b = then (expr t b) (s.Put note.Expr ∷ s.MoreItems ∷ [])

-- a comma and more elements, or the closing bracket
abbrev pub more_items : Kind → Act
more_items k.Comma = Take (s.Items ∷ [])
more_items k.CloseSquare = Take []
more_items t = Stop

-- a key with its value, and what is behind them
abbrev pub keyed : Option (List ℕ) → ℕ → Act
keyed (Some w) b =
    Take (s.Put (note.Key b w) ∷ s.Want s.Colon ∷ s.Expr ∷ s.Put note.Member_ ∷ s.MoreMembers ∷ [])
keyed None b = Stop

-- the members of an object up to its closing brace
abbrev pub members : Kind → ℕ → Act
members k.CloseBrace b = Take []
members t b = keyed (key_of t) b

-- a comma and more members, or the closing brace
abbrev pub more_members : Kind → Act
more_members k.Comma = Take (s.Members ∷ [])
more_members k.CloseBrace = Take []
more_members t = Stop

-- the word behind a dot
abbrev pub word : Option (List ℕ) → ℕ → Act
word (Some w) at = Take (s.Put (note.Member at w) ∷ [])
word None at = Stop

-- what is done at a symbol and a token, which begins at a byte and may stand behind a line break
abbrev pub act : Sym → ℕ → Bool → Kind → Act
act (s.Put n) b x t = Pass (n ∷ [])
act (s.Want m) b x t = want m t
act s.Name b x t = name t b
act (s.Stmts l) b x t = stmts t l b
act (s.Stmt l) b x t = stmt t l b
act (s.Else l a) b x t = else t l a
act s.End b x t = end t x
act (s.Return a) b x t = return t x b a
act (s.Decl d) b x t = decl t b d
act (s.Given d) b x t = given t d
act (s.Decls d) b x t = decls t d
act (s.Init a) b x t = init t b a
act (s.ForName a d) b x t = for_name t b a d
act (s.ForNext a d c n) b x t = for_next t a d c n
act s.Test b x t = test t b
act s.Last b x t = last t b
act s.Expr b x t = expr t b
act s.Operand b x t = operand t b
act (s.Level n) b x t = then (operand t b) (s.Tail n 0 b ∷ [])
act (s.Prim m) b x t = prim t b m
act (s.After m p a) b x t = after t x m p a
act (s.Tail n m a) b x t = tail t n m a
act (s.Choose a) b x t = choose t a
act (s.AfterName a n) b x t = after_name t x a n
act (s.Open a) b x t = opened t b a
act (s.OpenName a c n) b x t = open_name t x a c n
act (s.Closed a c n) b x t = closed t x a c n
act (s.Body a) b x t = body t b a
act (s.Function a) b x t = function t b a
act (s.Code n) b x t = code t n
act s.Names b x t = names t b
act s.MoreNames b x t = more_names t
act s.Params b x t = params t b
act s.Args b x t = args t b
act s.MoreArgs b x t = more_args t
act s.Items b x t = items t b
act s.MoreItems b x t = more_items t
act s.Members b x t = members t b
act s.MoreMembers b x t = more_members t
act (s.Word a) b x t = word (word_of t) a
