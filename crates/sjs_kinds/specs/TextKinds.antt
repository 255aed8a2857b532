-- What kind a reserved word and a sign are, by their text.
use Rattle.std.specs.Prelude.{◌≡◌, ℕ, List, [], ◌∷◌, true, false, Some, codes}
use Rattle.std.specs.Prelude.{if◌then◌else◌}
use Rattle.std.specs.Str.{bytes_eq}
use Rattle.sjs_syntax.specs.declared.signs.AssignSign.TheVariants as assign
use Rattle.sjs_syntax.specs.declared.signs.PairSign.TheVariants as pair
use Rattle.sjs_syntax.specs.declared.statements.Binding.TheVariants as binding
use Rattle.sjs_syntax.specs.Words as words
use Rattle.sjs_grammar.specs.Kinds as k
use Rattle.sjs_grammar.specs.Kinds.{Kind, word_of}

-- texts with their kinds
abbrev pub Kinds : Type 0
Kinds = List (List ℕ × Kind)

-- the reserved words of the grammar
abbrev pub word_kinds : Kinds
word_kinds =
    (codes "if", k.If) ∷
    (codes "else", k.Else) ∷
    (codes "while", k.While) ∷
    (codes "do", k.Do) ∷
    (codes "for", k.For) ∷
    (codes "var", k.Bind binding.Var) ∷
    (codes "let", k.Bind binding.Let) ∷
    (codes "const", k.Bind binding.Const) ∷
    (codes "in", k.In) ∷
    (codes "break", k.Break) ∷
    (codes "continue", k.Continue) ∷
    (codes "return", k.Return) ∷
    (codes "function", k.Function) ∷
    (codes "typeof", k.TypeOf) ∷
    (codes "true", k.Value k.True) ∷
    (codes "false", k.Value k.False) ∷
    (codes "null", k.Value k.Null) ∷
    (codes "undefined", k.Value k.Undefined) ∷
    []

-- the signs of the grammar
abbrev pub sign_kinds : Kinds
sign_kinds =
    (codes "{", k.OpenBrace) ∷
    (codes "}", k.CloseBrace) ∷
    (codes "(", k.OpenRound) ∷
    (codes ")", k.CloseRound) ∷
    (codes "[", k.OpenSquare) ∷
    (codes "]", k.CloseSquare) ∷
    (codes ";", k.Semi) ∷
    (codes ",", k.Comma) ∷
    (codes ".", k.Dot) ∷
    (codes "?", k.Quest) ∷
    (codes ":", k.Colon) ∷
    (codes "=>", k.Arrow) ∷
    (codes "!", k.Bang) ∷
    (codes "++", k.Step true) ∷
    (codes "--", k.Step false) ∷
    (codes "=", k.Assign assign.Set) ∷
    (codes "+=", k.Assign assign.Add) ∷
    (codes "-=", k.Assign assign.Sub) ∷
    (codes "*=", k.Assign assign.Mul) ∷
    (codes "/=", k.Assign assign.Div) ∷
    (codes "%=", k.Assign assign.Rem) ∷
    (codes "||", k.Infix pair.Or) ∷
    (codes "&&", k.Infix pair.And) ∷
    (codes "==", k.Infix pair.Eq) ∷
    (codes "!=", k.Infix pair.Ne) ∷
    (codes "===", k.Infix pair.Same) ∷
    (codes "!==", k.Infix pair.NotSame) ∷
    (codes "<", k.Infix pair.Lt) ∷
    (codes ">", k.Infix pair.Gt) ∷
    (codes "<=", k.Infix pair.Le) ∷
    (codes ">=", k.Infix pair.Ge) ∷
    (codes "+", k.Infix pair.Add) ∷
    (codes "-", k.Infix pair.Sub) ∷
    (codes "*", k.Infix pair.Mul) ∷
    (codes "/", k.Infix pair.Div) ∷
    (codes "%", k.Infix pair.Rem) ∷
    []

-- the kind of a text in a table, or another kind
abbrev pub kind_in : Kinds → Kind → List ℕ → Kind
kind_in [] other text = other
kind_in (e ∷ es) other text = if bytes_eq e.0 text then e.1 else kind_in es other text

-- the kind of a reserved word: one that is not in the table is one that no script has
abbrev pub kind_of_word : List ℕ → Kind
kind_of_word text = kind_in word_kinds (k.OutWord text) text

-- the kind of a sign: one that is not in the table is one that no script has
abbrev pub kind_of_sign : List ℕ → Kind
kind_of_sign text = kind_in sign_kinds k.OutSign text

-- the kind of a reserved word is written as the word, and counts as left out where it does
abbrev pub IsWordKind : List ℕ → Type 0
IsWordKind text =
    (word_of (kind_of_word text) ≡ Some text) ×
    (k.is_left_out (kind_of_word text) ≡ words.is_left_out text)

-- the kind of a sign counts as left out where the sign does
abbrev pub IsSignKind : List ℕ → Type 0
IsSignKind text = k.is_left_out (kind_of_sign text) ≡ words.is_left_out text
