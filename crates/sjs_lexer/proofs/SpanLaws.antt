-- The tokens of a text lie where their places say.
use Rattle.std.proofs.Common.{◌≡◌, ℕ, ◌+◌, ◌-◌, ◌≤◌, List, ◌++◌, ap, subst, ◌∙◌, arith}
use Rattle.sjs_lexer.specs.declared.token.Token.{Token}
use Rattle.sjs_lexer.specs.Spans.{LieIn, lie_none, lie_more}
use Rattle.sjs_lexer.specs.Tokens.{TokensTo, tokens_none, tokens_more, bytes_in, AreTokens}
use Rattle.sjs_lexer.proofs.Walks.{skips_front, bytes-append}

lie_in : (whole : ℕ) (left last : List ℕ) (ts : List Token) → bytes_in left ≤ whole
    → TokensTo whole left ts last → LieIn (whole - bytes_in left) left ts
lie_in whole left last _ within tokens_none = lie_none
lie_in whole left last _ within
    (tokens_more here word rest {broken = broken} {k = k} {ts = ts} skips at more) =
    let front = skips_front left here broken skips in
    let one : bytes_in left ≡ bytes_in front.0 + bytes_in here =
    ap bytes_in front.1 ∙ bytes-append front.0 here in
    let two : bytes_in here ≡ bytes_in word + bytes_in rest =
    ap bytes_in at.split ∙ bytes-append word rest in
    let behind : LieIn (whole - bytes_in rest) rest ts =
    lie_in whole rest last ts (omega arith) more in
    lie_more front.0 word rest (front.1 ∙ ap (λ t. front.0 ++ t) at.split) (omega arith)
    (omega arith) at.is behind

pub tokens_lie : (text : List ℕ) (ts : List Token) → AreTokens text ts → LieIn 0 text ts
tokens_lie text ts are =
    let P : ℕ → Type 0 = λ n. LieIn n text ts in
    subst P (omega arith) (lie_in (bytes_in text) text are.last ts (omega arith) are.tokens)
