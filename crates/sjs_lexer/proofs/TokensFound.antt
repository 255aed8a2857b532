-- The token at the front of a text, by the class of its first character.
use Rattle.std.proofs.Common.{◌≡◌, ℕ, ◌≤◌, ◌==◌, ◌||◌, not, List, [], ◌∷◌, ◌++◌, length, Bool, true}
use Rattle.std.proofs.Common.{false, Some, None, refl, sym, ap, subst, ◌∙◌, arith, append_assoc}
use Rattle.std.specs.Prelude.{if◌then◌else◌, pos}
use Rattle.std.specs.Char.{is_ascii_alphanumeric, is_ascii_digit}
use Rattle.std.specs.List.{list_all}
use Rattle.std.proofs.lemmas.Bool.Decides.{nat_tests}
use Rattle.std.proofs.lemmas.List.{length-append}
use Rattle.sjs_syntax.specs.Words.{is_sign, signs, IsLongestSign, BeginsWithNoSign}
use Rattle.sjs_syntax.proofs.LongestSign.{entry_passes}
use Rattle.sjs_lexer.specs.declared.token.TokenKind.{TokenKind}
use Rattle.sjs_lexer.specs.declared.token.TokenKind.TheVariants as kind
use Rattle.sjs_lexer.specs.Characters.{is_name_start, is_name_char}
use Rattle.sjs_lexer.specs.Digits.{number_of}
use Rattle.sjs_lexer.specs.Found.{HasNoToken, HasToken}
use Rattle.sjs_lexer.specs.Reading.{number_at, skip_while, piece_at, Pieces, behind_char}
use Rattle.sjs_lexer.specs.Tokens.{is_name, is_quote, begins_gap, is_apart, IsToken, name, reserved}
use Rattle.sjs_lexer.specs.Tokens.{number, quoted, sign, TokenAt, Spells}
use Rattle.sjs_lexer.proofs.NumbersRead.{is_joined, number_at_of, number_is_read, number_begins}
use Rattle.sjs_lexer.proofs.NumbersRead.{number_is_alphanumeric}
use Rattle.sjs_lexer.proofs.PiecesRead.{written_of, written_are_read, one_reading}
use Rattle.sjs_lexer.proofs.PiecesRead.{quote_is_no_piece}
use Rattle.sjs_lexer.proofs.Runs.{run_of, longest_run, fails_first}

-- the class of a first character
pub data Class : Type 0 where
  letter : Class
  digit : Class
  quotes : Class
  remaining : Class

abbrev pub class_of : ℕ → Class
class_of c =
    if is_name_start c then letter
    else (if is_ascii_digit c then digit else (if is_quote c then quotes else remaining))

abbrev pub class_of_kind : TokenKind → Class
class_of_kind kind.Name = letter
class_of_kind kind.Reserved = letter
class_of_kind (kind.Number n) = digit
class_of_kind (kind.Text value) = quotes
class_of_kind kind.Sign = remaining

digit_is_no_letter : (c : ℕ) → is_ascii_digit c ≡ true → is_name_start c ≡ false
unfolding is_name_start
digit_is_no_letter c is = grind (arith, nat_tests)

quote_is_no_letter : (c : ℕ) → is_quote c ≡ true → is_name_start c ≡ false
unfolding is_name_start
quote_is_no_letter c is = grind (arith, nat_tests)

quote_is_no_digit : (c : ℕ) → is_quote c ≡ true → is_ascii_digit c ≡ false
quote_is_no_digit c is = grind (arith, nat_tests)

begins_other : List ℕ → Bool
begins_other [] = false
begins_other (c ∷ cs) = not ((is_name_start c || is_ascii_digit c) || is_quote c)

signs_begin_other : list_all (λ e. begins_other e.0) signs ≡ true
unfolding begins_other signs is_name_start
signs_begin_other = refl

-- how a token begins
pub record Begins (word : List ℕ) (k : TokenKind) : Type 0 where
  pub first : ℕ
  pub more : List ℕ
  pub is : word ≡ first ∷ more
  pub class : class_of first ≡ class_of_kind k

name_begins : (word : List ℕ) (k : TokenKind) → class_of_kind k ≡ letter → is_name word ≡ true
    → Begins word k
name_begins [] k class is = cc
name_begins (c ∷ cs) k class is =
    let first : is_name_start c ≡ true = grind (arith, nat_tests) in
    record { first = c; more = cs; is = refl; class = rw first (sym class) }

sign_begins : (word : List ℕ) → begins_other word ≡ true → Begins word kind.Sign
unfolding begins_other
sign_begins [] is = cc
sign_begins (c ∷ cs) is =
    let no_letter : is_name_start c ≡ false = grind (arith, nat_tests) in
    let no_digit : is_ascii_digit c ≡ false = grind (arith, nat_tests) in
    let no_quote : is_quote c ≡ false = grind (arith, nat_tests) in
    record { first = c; more = cs; is = refl; class = rw (no_letter, no_digit, no_quote) }

digit_class : (c : ℕ) → is_ascii_digit c ≡ true → class_of c ≡ digit
digit_class c is = let no : is_name_start c ≡ false = digit_is_no_letter c is in rw (no, is)

quote_class : (c : ℕ) → is_quote c ≡ true → class_of c ≡ quotes
quote_class c is = let no : is_name_start c ≡ false = quote_is_no_letter c is in
    let neither : is_ascii_digit c ≡ false = quote_is_no_digit c is in rw (no, neither, is)

pub token_begins : (word : List ℕ) (k : TokenKind) → IsToken word k → Begins word k
token_begins word _ (name is unknown) = name_begins word kind.Name refl is
token_begins word _ (reserved is known) = name_begins word kind.Reserved refl is
token_begins word _ (number {n = n} is) =
    let begins = number_begins word n is in
    record {
      first =
          begins.0;
      more = begins.1;
      is = begins.2;
      class = digit_class begins.0 begins.3;
    }
token_begins _ _ (quoted {quote} w is spells) =
    record { first = quote; more = w ++ quote ∷ []; is = refl; class = quote_class quote is }
token_begins word _ (sign is) =
    sign_begins word (entry_passes begins_other signs word signs_begin_other is)

-- two tokens at the front of one text are of one class
pub same_class : (word rest other more : List ℕ) (k j : TokenKind) → word ++ rest ≡ other ++ more
    → IsToken word k → IsToken other j → class_of_kind k ≡ class_of_kind j
same_class word rest other more k j split is too =
    let one = token_begins word k is in
    let two = token_begins other j too in
    let front : one.first ∷ (one.more ++ rest) ≡ two.first ∷ (two.more ++ more) =
    ap (λ w. w ++ rest) (sym one.is) ∙ split ∙ ap (λ w. w ++ more) two.is in
    let same : one.first ≡ two.first = cc in
    sym one.class ∙ ap class_of same ∙ two.class

-- the class of the token at the front of a text that begins with this character
class_at : (c : ℕ) (cs word rest : List ℕ) (k : TokenKind) → c ∷ cs ≡ word ++ rest → IsToken word k
    → class_of_kind k ≡ class_of c
class_at c cs word rest k split is =
    let one = token_begins word k is in
    let front : c ∷ cs ≡ one.first ∷ (one.more ++ rest) = split ∙ ap (λ w. w ++ rest) one.is in
    let same : c ≡ one.first = cc in
    sym one.class ∙ ap class_of (sym same)

pub append_cancel : (xs ys tail : List ℕ) → xs ++ tail ≡ ys ++ tail → xs ≡ ys
append_cancel [] [] tail same = refl
append_cancel [] (y ∷ ys) tail same = absurd (omega (arith, simp length-append at (ap length same)))
append_cancel (x ∷ xs) [] tail same = absurd (omega (arith, simp length-append at (ap length same)))
append_cancel (x ∷ xs) (y ∷ ys) tail same =
    let first : x ≡ y = cc in
    let rest : xs ++ tail ≡ ys ++ tail = cc in
    ap (λ z. z ∷ xs) first ∙ ap (λ zs. y ∷ zs) (append_cancel xs ys tail rest)

pub not_longer : (xs rest ys more : List ℕ) → xs ++ rest ≡ ys ++ more → rest ≡ more
    → length ys ≤ length xs
not_longer xs rest ys more same tails =
    omega (arith, simp length-append at (ap length same), ap length tails)

-- names and reserved words

is_start_name : (c : ℕ) (cs : List ℕ) → is_name_start c ≡ true → class_of c ≡ letter
is_start_name c cs is = rw is

-- any token of the class of letters is made of such characters
pub letters_of : (word : List ℕ) (k : TokenKind) → class_of_kind k ≡ letter → IsToken word k
    → is_name word ≡ true
letters_of word _ class (name is unknown) = is
letters_of word _ class (reserved is known) = is
letters_of word _ class (number is) = cc
letters_of _ _ class (quoted w is spells) = cc
letters_of word _ class (sign is) = cc

start_is_char : (c : ℕ) → is_name_start c ≡ true → is_name_char c ≡ true
unfolding is_name_start is_name_char
start_is_char c is = grind (arith, nat_tests)

chars_of_name : (word : List ℕ) → is_name word ≡ true → list_all is_name_char word ≡ true
chars_of_name [] is = cc
chars_of_name (c ∷ cs) is =
    let start : is_name_start c ≡ true = grind (arith, nat_tests) in
    let behind : list_all is_name_char cs ≡ true = grind (arith, nat_tests) in
    rw (start_is_char c start, behind)

name_from_chars : (c : ℕ) (cs word rest : List ℕ) → is_name_start c ≡ true → c ∷ cs ≡ word ++ rest
    → list_all is_name_char word ≡ true → fails_first is_name_char rest ≡ true → is_name word ≡ true
name_from_chars c cs [] rest start split all stops =
    let char : is_name_char c ≡ true = start_is_char c start in
    let stop : fails_first is_name_char (c ∷ cs) ≡ true =
    ap (fails_first is_name_char) split ∙ stops in
    grind (arith, nat_tests)
name_from_chars c cs (d ∷ ds) rest start split all stops =
    let same : c ≡ d = cc in
    let first : is_name_start d ≡ true = ap is_name_start (sym same) ∙ start in
    let behind : list_all is_name_char ds ≡ true = grind (arith, nat_tests) in
    rw (first, behind)

pub name_found : (c : ℕ) (cs : List ℕ) (k : TokenKind) (word : List ℕ) → is_name_start c ≡ true
    → begins_gap (c ∷ cs) ≡ false → c ∷ cs ≡ word ++ skip_while is_name_char (c ∷ cs)
    → (is_name word ≡ true → IsToken word k) → is_apart k (skip_while is_name_char (c ∷ cs)) ≡ true
    → TokenAt (c ∷ cs) word (skip_while is_name_char (c ∷ cs)) k
name_found c cs k word start clear split is apart =
    let run = run_of is_name_char (c ∷ cs) in
    let same : word ≡ run.word =
    append_cancel word run.word (skip_while is_name_char (c ∷ cs)) (sym split ∙ run.split) in
    let all : list_all is_name_char word ≡ true = ap (list_all is_name_char) same ∙ run.all in
    let is_named : is_name word ≡ true =
    name_from_chars c cs word (skip_while is_name_char (c ∷ cs)) start split all run.stops in
    record {
      clear = clear;
      split = split;
      is = is is_named;
      longest = λ other more j split_other is_other.
          let class : class_of_kind j ≡ letter =
          class_at c cs other more j split_other is_other ∙ is_start_name c cs start in
          longest_run is_name_char word (skip_while is_name_char (c ∷ cs)) other more
          (sym split ∙ split_other) (chars_of_name other (letters_of other j class is_other))
          run.stops;
      apart = apart;
    }

-- numbers

pub number_class : (word : List ℕ) (k : TokenKind) → class_of_kind k ≡ digit → IsToken word k
    → (n : ℕ) × (k ≡ kind.Number (pos n)) × (number_of word ≡ Some n)
number_class word _ class (name is unknown) = cc
number_class word _ class (reserved is known) = cc
number_class word _ class (number {n = n} is) = (n, refl, is)
number_class _ _ class (quoted w is spells) = cc
number_class word _ class (sign is) = cc

apart_is : (n : ℕ) (rest : List ℕ)
    → is_apart (kind.Number (pos n)) rest ≡ fails_first is_joined rest
apart_is n [] = refl
apart_is n (c ∷ cs) = refl

joined_stops : (rest : List ℕ) → fails_first is_joined rest ≡ true
    → fails_first is_ascii_alphanumeric rest ≡ true
joined_stops [] stops = refl
joined_stops (c ∷ cs) stops = grind (arith, nat_tests)

pub number_found : (c : ℕ) (cs : List ℕ) (found : ℕ × List ℕ) → is_ascii_digit c ≡ true
    → begins_gap (c ∷ cs) ≡ false → number_at (c ∷ cs) ≡ Some found
    → HasToken (c ∷ cs) (kind.Number (pos found.0)) found.1
number_found c cs found first clear read =
    let at = number_at_of (c ∷ cs) found read in (
      at.word,
      record {
        clear = clear;
        split = at.split;
        is = number at.is;
        longest = λ other more j split_other is_other.
            let class : class_of_kind j ≡ digit =
            class_at c cs other more j split_other is_other ∙ digit_class c first in
            let other_number = number_class other j class is_other in
            longest_run is_ascii_alphanumeric at.word found.1 other more
            (sym at.split ∙ split_other)
            (number_is_alphanumeric other other_number.0 other_number.2)
            (joined_stops found.1 at.apart);
        apart = apart_is found.0 found.1 ∙ at.apart;
      },
    )

pub no_number : (c : ℕ) (cs : List ℕ) → is_ascii_digit c ≡ true → number_at (c ∷ cs) ≡ None
    → HasNoToken (c ∷ cs)
no_number c cs first none word rest k token =
    let class : class_of_kind k ≡ digit =
    class_at c cs word rest k token.split token.is ∙ digit_class c first in
    let is = number_class word k class token.is in
    let apart : fails_first is_joined rest ≡ true =
    sym (apart_is is.0 rest) ∙ ap (λ k. is_apart k rest) (sym is.1) ∙ token.apart in
    let found : ℕ × List ℕ = (is.0, rest) in
    let read : number_at (c ∷ cs) ≡ Some found =
    ap number_at token.split ∙ number_is_read word rest is.0 is.2 apart in
    cc

-- texts

pub text_class : (word : List ℕ) (k : TokenKind) → class_of_kind k ≡ quotes → IsToken word k
    → (quote : ℕ) × (w : List ℕ) × (value : List ℕ) × (word ≡ quote ∷ (w ++ quote ∷ []))
    × (k ≡ kind.Text value) × (is_quote quote ≡ true) × Spells quote w value
text_class word _ class (name is unknown) = cc
text_class word _ class (reserved is known) = cc
text_class word _ class (number is) = cc
text_class _ _ class (quoted {quote} w {value} is spells) =
    (quote, w, value, refl, refl, is, spells)
text_class word _ class (sign is) = cc

pub behind_is : (quote : ℕ) (here rest : List ℕ) → behind_char quote here ≡ Some rest
    → here ≡ quote ∷ rest
behind_is quote [] rest is = cc
behind_is quote (c ∷ cs) rest is =
    elim (c == quote) as
    (λ b. (c == quote) ≡ b → (if b then Some cs else None) ≡ Some rest → c ∷ cs ≡ quote ∷ rest) [
      | true ↦ λ test is. let same : c ≡ quote = grind (arith, nat_tests) in
          let tail : cs ≡ rest = cc in cc
      | false ↦ λ test is. cc
    ] refl is

is_behind : (quote : ℕ) (rest : List ℕ) → behind_char quote (quote ∷ rest) ≡ Some rest
is_behind quote rest = let same : (quote == quote) ≡ true = grind (arith, nat_tests) in rw same

-- a text that is read to its quote, and any other at the same front
pub record IsOtherText (quote : ℕ) (cs : List ℕ) (other more : List ℕ) (j : TokenKind) : Type 0
  where
    pub w : List ℕ
    pub value : List ℕ
    pub is : other ≡ quote ∷ (w ++ quote ∷ [])
    pub kind_is : j ≡ kind.Text value
    pub pieces : Pieces quote cs value (quote ∷ more)

other_text : (quote : ℕ) (cs other more : List ℕ) (j : TokenKind) → is_quote quote ≡ true
    → quote ∷ cs ≡ other ++ more → IsToken other j → IsOtherText quote cs other more j
other_text quote cs other more j is split token =
    let class : class_of_kind j ≡ quotes =
    class_at quote cs other more j split token ∙ quote_class quote is in
    let text = text_class other j class token in
    let front : quote ∷ cs ≡ text.0 ∷ ((text.1 ++ text.0 ∷ []) ++ more) =
    split ∙ ap (λ w. w ++ more) text.3 in
    let same : quote ≡ text.0 = cc in
    let tail : cs ≡ (text.1 ++ text.0 ∷ []) ++ more = cc in
    let whole : cs ≡ text.1 ++ text.0 ∷ more = tail ∙ append_assoc text.1 (text.0 ∷ []) more in
    let read : Pieces text.0 (text.1 ++ text.0 ∷ more) text.2 (text.0 ∷ more) =
    written_are_read text.0 text.1 text.2 (text.0 ∷ more) text.5 text.6 in
    let P : ℕ → Type 0 = λ q. Pieces q (text.1 ++ q ∷ more) text.2 (q ∷ more) in
    let Q : List ℕ → Type 0 = λ t. Pieces quote t text.2 (quote ∷ more) in
    let here : cs ≡ text.1 ++ quote ∷ more = whole ∙ ap (λ q. text.1 ++ q ∷ more) (sym same) in
    record {
      w = text.1;
      value = text.2;
      is = text.3 ∙ ap (λ q. q ∷ (text.1 ++ q ∷ [])) (sym same);
      kind_is = text.4;
      pieces = subst Q (sym here) (subst P (sym same) read);
    }

pub text_found : (quote : ℕ) (cs value here rest : List ℕ) → is_quote quote ≡ true
    → begins_gap (quote ∷ cs) ≡ false → Pieces quote cs value here → here ≡ quote ∷ rest
    → HasToken (quote ∷ cs) (kind.Text value) rest
text_found quote cs value here rest is clear pieces end =
    let P : List ℕ → Type 0 = λ t. Pieces quote cs value t in
    let read : Pieces quote cs value (quote ∷ rest) = subst P end pieces in
    let written = written_of quote cs value (quote ∷ rest) read in (
      quote ∷ (written.word ++ quote ∷ []),
      record {
        clear = clear;
        split =
            ap (λ t. quote ∷ t) (written.split ∙ sym (append_assoc written.word (quote ∷ []) rest));
        is = quoted written.word is written.are;
        longest = λ other more j split_other is_other.
            let text = other_text quote cs other more j is split_other is_other in
            let one =
            one_reading quote cs value text.value (quote ∷ rest) (quote ∷ more) read text.pieces
            (quote_is_no_piece quote rest) (quote_is_no_piece quote more) in
            let tails : rest ≡ more = let e : quote ∷ rest ≡ quote ∷ more = one.1 in cc in
            let whole : (quote ∷ (written.word ++ quote ∷ [])) ++ rest ≡ other ++ more =
            ap (λ t. quote ∷ t)
            (append_assoc written.word (quote ∷ []) rest ∙ sym written.split) ∙ split_other in
            not_longer (quote ∷ (written.word ++ quote ∷ [])) rest other more whole tails;
        apart = refl;
      },
    )

pub no_text : (quote : ℕ) (cs value here : List ℕ) → is_quote quote ≡ true
    → Pieces quote cs value here → piece_at quote here ≡ None → behind_char quote here ≡ None
    → HasNoToken (quote ∷ cs)
no_text quote cs value here is pieces last unclosed word rest k token =
    let text = other_text quote cs word rest k is token.split token.is in
    let one =
    one_reading quote cs value text.value here (quote ∷ rest) pieces text.pieces last
    (quote_is_no_piece quote rest) in
    let closed : behind_char quote here ≡ Some rest =
    ap (behind_char quote) one.1 ∙ is_behind quote rest in
    cc

-- signs

pub sign_class : (word : List ℕ) (k : TokenKind) → class_of_kind k ≡ remaining → IsToken word k
    → (k ≡ kind.Sign) × (is_sign word ≡ true)
sign_class word _ class (name is unknown) = cc
sign_class word _ class (reserved is known) = cc
sign_class word _ class (number is) = cc
sign_class _ _ class (quoted w is spells) = cc
sign_class word _ class (sign is) = (refl, is)

pub remaining_class : (c : ℕ) → is_name_start c ≡ false → is_ascii_digit c ≡ false
    → is_quote c ≡ false → class_of c ≡ remaining
remaining_class c no_letter no_digit no_quote = rw (no_letter, no_digit, no_quote)

pub sign_found : (c : ℕ) (cs sign_is rest : List ℕ) → class_of c ≡ remaining
    → begins_gap (c ∷ cs) ≡ false → IsLongestSign (c ∷ cs) sign_is → c ∷ cs ≡ sign_is ++ rest
    → HasToken (c ∷ cs) kind.Sign rest
sign_found c cs sign_is rest class clear longest split = (
  sign_is,
  record {
    clear = clear;
    split = split;
    is = sign longest.is;
    longest = λ other more j split_other is_other.
        longest.longest other more
        (sign_class other j (class_at c cs other more j split_other is_other ∙ class)
        is_other).1 split_other;
    apart = refl;
  },
)

pub no_sign : (c : ℕ) (cs : List ℕ) → class_of c ≡ remaining → BeginsWithNoSign (c ∷ cs)
    → HasNoToken (c ∷ cs)
no_sign c cs class none word rest k token =
    none word rest
    (sign_class word k (class_at c cs word rest k token.split token.is ∙ class) token.is).1
    token.split
