-- The tokens of a text: it is white space and comments with the tokens between them, each the
-- longest that can be read there.
use Rattle.std.specs.Prelude.{◌≡◌, ◌≢◌, ℕ, ◌-◌, ◌≤◌, ◌==◌, ◌||◌, ◌&&◌, not, pos, List, [], ◌∷◌}
use Rattle.std.specs.Prelude.{◌++◌, length, Bool, true, false, Some, encode_utf8_all}
use Rattle.std.specs.Char.{is_ascii_alphanumeric}
use Rattle.std.specs.List.{list_all, list_any}
use Rattle.sjs_syntax.specs.Words.{is_word, is_sign}
use Rattle.sjs_lexer.specs.declared.token.Token.{Token}
use Rattle.sjs_lexer.specs.declared.token.TokenKind.{TokenKind}
use Rattle.sjs_lexer.specs.declared.token.TokenKind.TheVariants as kind
use Rattle.sjs_lexer.specs.Characters.{is_line_end, is_in_line, is_white, is_name_start}
use Rattle.sjs_lexer.specs.Characters.{is_name_char}
use Rattle.sjs_lexer.specs.Digits.{number_of, written}
use Rattle.sjs_lexer.specs.Escapes.{escaped, is_scalar, is_high, is_low, joined}

-- names

-- characters of names, of which the first is no digit
abbrev pub is_name : List ℕ → Bool
is_name [] = false
is_name (c ∷ cs) = is_name_start c && list_all is_name_char cs

-- texts

abbrev pub is_quote : ℕ → Bool
is_quote c = c == 34 || c == 39

-- stands for itself between these quotes
abbrev pub is_plain : ℕ → ℕ → Bool
is_plain quote c = not ((c == quote || is_line_end c) || c == 92)

-- how a character is written between these quotes
pub data IsPiece (quote : ℕ) : List ℕ → ℕ → Type 0 where
  plain : {c : ℕ} → is_plain quote c ≡ true → IsPiece quote (c ∷ []) c
  short : {c v : ℕ} → escaped c ≡ Some v → IsPiece quote (92 ∷ c ∷ []) v
  hex : {ds : List ℕ} {code : ℕ} →
      length ds ≡ 2 → written 16 0x10FFFF ds ≡ Some code → is_scalar code ≡ true →
      IsPiece quote (92 ∷ 120 ∷ ds) code
  unicode : {ds : List ℕ} {code : ℕ} →
      length ds ≡ 4 → written 16 0x10FFFF ds ≡ Some code → is_scalar code ≡ true →
      IsPiece quote (92 ∷ 117 ∷ ds) code
  pair : (ds es : List ℕ) (high low : ℕ) →
      length ds ≡ 4 → written 16 0x10FFFF ds ≡ Some high → is_high high ≡ true →
      length es ≡ 4 → written 16 0x10FFFF es ≡ Some low → is_low low ≡ true →
      IsPiece quote (92 ∷ 117 ∷ (ds ++ 92 ∷ 117 ∷ es)) (joined high low)
  braced : (ds : List ℕ) {code : ℕ} →
      written 16 0x10FFFF ds ≡ Some code → is_scalar code ≡ true →
      IsPiece quote (92 ∷ 117 ∷ 123 ∷ (ds ++ 125 ∷ [])) code

-- how a text is written between these quotes
pub data Spells (quote : ℕ) : List ℕ → List ℕ → Type 0 where
  spells_none : Spells quote [] []
  spells_more : (w ws : List ℕ) {cs : List ℕ} {c : ℕ} →
      IsPiece quote w c → Spells quote ws cs → Spells quote (w ++ ws) (c ∷ cs)

-- which characters are one token, and of which kind
pub data IsToken : List ℕ → TokenKind → Type 0 where
  name : {w : List ℕ} → is_name w ≡ true → is_word w ≡ false → IsToken w kind.Name
  reserved : {w : List ℕ} → is_name w ≡ true → is_word w ≡ true → IsToken w kind.Reserved
  number : {w : List ℕ} {n : ℕ} → number_of w ≡ Some n → IsToken w (kind.Number (pos n))
  quoted : {quote : ℕ} (w : List ℕ) {value : List ℕ} →
      is_quote quote ≡ true → Spells quote w value →
      IsToken (quote ∷ (w ++ quote ∷ [])) (kind.Text value)
  sign : {w : List ℕ} → is_sign w ≡ true → IsToken w kind.Sign

-- between tokens

-- a line ends here, or the text does
abbrev pub is_at_end_of_line : List ℕ → Bool
is_at_end_of_line [] = true
is_at_end_of_line (c ∷ cs) = is_line_end c

-- this character stands first
abbrev pub begins_with : ℕ → List ℕ → Bool
begins_with first [] = false
begins_with first (c ∷ cs) = c == first

-- the end of a comment stands in it
abbrev pub has_close : List ℕ → Bool
has_close [] = false
has_close (c ∷ cs) = (c == 42 && begins_with 47 cs) || has_close cs

-- a text, the white space character or the comment at its front, and what stands behind: a comment
-- of one line goes to the end of the line, and any other to the first `*/`
pub data GapAt : List ℕ → List ℕ → List ℕ → Type 0 where
  white : {c : ℕ} {rest : List ℕ} → is_white c ≡ true → GapAt (c ∷ rest) (c ∷ []) rest
  line : (body : List ℕ) {rest : List ℕ} →
      list_all is_in_line body ≡ true → is_at_end_of_line rest ≡ true →
      GapAt (47 ∷ 47 ∷ (body ++ rest)) (47 ∷ 47 ∷ body) rest
  block : (body : List ℕ) {rest : List ℕ} →
      has_close (body ++ 42 ∷ []) ≡ false →
      GapAt (47 ∷ 42 ∷ (body ++ 42 ∷ 47 ∷ rest)) (47 ∷ 42 ∷ (body ++ 42 ∷ 47 ∷ [])) rest

-- white space and comments from one place to another, and whether a line ends in them
pub data Skips : List ℕ → Bool → List ℕ → Type 0 where
  skips_none : {left : List ℕ} → Skips left false left
  skips_more : {left : List ℕ} (gap next : List ℕ) {here : List ℕ} (broken : Bool) →
      GapAt left gap next → Skips next broken here →
      Skips left (list_any is_line_end gap || broken) here

-- white space or a comment begins here, also a comment that has no end
abbrev pub begins_gap : List ℕ → Bool
begins_gap [] = false
begins_gap (c ∷ cs) = is_white c || (c == 47 && (begins_with 47 cs || begins_with 42 cs))

-- no letter, digit or dot stands directly behind a number
abbrev pub is_apart : TokenKind → List ℕ → Bool
is_apart (kind.Number n) [] = true
is_apart (kind.Number n) (c ∷ cs) = not (is_ascii_alphanumeric c || c == 46)
is_apart kind.Name rest = true
is_apart kind.Reserved rest = true
is_apart (kind.Text value) rest = true
is_apart kind.Sign rest = true

-- the token that is read at the front of a text
pub record TokenAt (text word rest : List ℕ) (k : TokenKind) : Type 0 where
  pub clear : begins_gap text ≡ false
  pub split : text ≡ word ++ rest
  pub is : IsToken word k
  pub longest : (other more : List ℕ) (j : TokenKind) →
      text ≡ other ++ more → IsToken other j → length other ≤ length word
  pub apart : is_apart k rest ≡ true

-- how many bytes a text has
abbrev pub bytes_in : List ℕ → ℕ
bytes_in cs = length (encode_utf8_all cs)

-- tokens from one place of a text to another; a place is the number of bytes before it, which are
-- all the bytes of the whole text but those that are left
pub data TokensTo (whole : ℕ) : List ℕ → List Token → List ℕ → Type 0 where
  tokens_none : {left : List ℕ} → TokensTo whole left [] left
  tokens_more :
      {left : List ℕ} (here word rest : List ℕ) {last : List ℕ}
      {broken : Bool} {k : TokenKind} {ts : List Token} →
      Skips left broken here → TokenAt here word rest k → TokensTo whole rest ts last →
      TokensTo whole left
      (record {
        kind = k;
        from = whole - bytes_in here;
        to = whole - bytes_in rest;
        after_break = broken;
      } ∷ ts)
      last

-- the tokens of a whole text
pub record AreTokens (text : List ℕ) (ts : List Token) : Type 0 where
  pub last : List ℕ
  pub broken : Bool
  pub tokens : TokensTo (bytes_in text) text ts last
  pub behind : Skips last broken []

-- the text goes on here, and neither white space, nor a comment, nor a token can be read
pub record IsStuck (here : List ℕ) : Type 0 where
  pub more : here ≢ []
  pub no_gap : (gap rest : List ℕ) → GapAt here gap rest → ⊥
  pub no_token : (word rest : List ℕ) (k : TokenKind) → TokenAt here word rest k → ⊥

-- tokens lead to this place, and there no token can be read
pub record IsRefusedAt (text : List ℕ) (place : ℕ) : Type 0 where
  pub before : List Token
  pub last : List ℕ
  pub broken : Bool
  pub here : List ℕ
  pub tokens : TokensTo (bytes_in text) text before last
  pub behind : Skips last broken here
  pub stuck : IsStuck here
  pub at : place ≡ bytes_in text - bytes_in here
