-- What the code finds at the front of a text.
use Rattle.std.specs.Prelude.{◌≡◌, ℕ, ◌||◌, not, List, ◌∷◌, Bool, true, Option, None, MatchOption}
use Rattle.std.specs.Str.{chars}
use Rattle.std.specs.Char.{is_ascii_digit}
use denote.Ref.{Bor}
use Rattle.sjs_lexer.specs.declared.token.LexEnd.{LexEnd}
use Rattle.sjs_lexer.specs.declared.token.LexEnd.TheVariants as end
use Rattle.sjs_lexer.specs.declared.token.TokenKind.{TokenKind}
use Rattle.sjs_lexer.specs.Reading.{past_gap}
use Rattle.sjs_lexer.specs.Characters.{is_name_start}
use Rattle.sjs_lexer.specs.Tokens.{TokenAt, Skips, is_quote, IsRefusedAt}

-- no token can be read
abbrev pub HasNoToken : List ℕ → Type 0
HasNoToken text = (word rest : List ℕ) (k : TokenKind) → TokenAt text word rest k → ⊥

-- a token of this kind, and what is left behind it
abbrev pub HasToken : List ℕ → TokenKind → List ℕ → Type 0
HasToken text k rest = (word : List ℕ) × TokenAt text word rest k

-- the token, or that there is none
abbrev pub Finds : List ℕ → Option (TokenKind × Bor (List ℕ)) → Type 0
Finds text found = MatchOption found (HasNoToken text) (λ t. HasToken text t.0 (chars t.1.now))

-- a character of this class stands first
abbrev pub BeginsWith : (ℕ → Bool) → List ℕ → Type 0
BeginsWith passes text = (c : ℕ) × (cs : List ℕ) × (text ≡ c ∷ cs) × (passes c ≡ true)

-- neither a name, nor a number, nor a text begins with it
abbrev pub begins_sign : ℕ → Bool
begins_sign c = not ((is_name_start c || is_ascii_digit c) || is_quote c)

-- white space and comments lead to here, and none stands here
abbrev pub SkipsAll : List ℕ → Bool → List ℕ → Type 0
SkipsAll text broken here = Skips text broken here × (past_gap here ≡ None)

-- no token can be read at the place that is told
abbrev pub EndsBy : List ℕ → LexEnd → Type 0
EndsBy text end.OutOfMemory = Unit {0}
EndsBy text (end.Refused place) = IsRefusedAt text place
