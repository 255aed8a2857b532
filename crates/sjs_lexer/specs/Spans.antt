-- Where the tokens of a text lie in it.
use Rattle.std.specs.Prelude.{◌≡◌, ℕ, ◌+◌, List, [], ◌∷◌, ◌++◌}
use Rattle.sjs_lexer.specs.declared.token.Token.{Token}
use Rattle.sjs_lexer.specs.Tokens.{IsToken, bytes_in}

-- so many bytes stand before what is left, and these tokens lie in it, in this order: each is the
-- text between its places, which count all bytes before it
pub data LieIn : ℕ → List ℕ → List Token → Type 0 where
  lie_none : {before : ℕ} {left : List ℕ} → LieIn before left []
  lie_more : {before : ℕ} {left : List ℕ} {t : Token} {ts : List Token} (gap word rest : List ℕ) →
      left ≡ gap ++ (word ++ rest) →
      t.from ≡ before + bytes_in gap → t.to ≡ t.from + bytes_in word → IsToken word t.kind →
      LieIn t.to rest ts → LieIn before left (t ∷ ts)
