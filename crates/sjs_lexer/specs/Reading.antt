-- What is read at the front of a text, and what is then left of it.
use Rattle.std.specs.Prelude.{◌≡◌, ℕ, zero, suc, ◌==◌, ◌||◌, List, [], ◌∷◌, Bool, false, Option}
use Rattle.std.specs.Prelude.{Some, None, if◌then◌else◌, option_map}
use Rattle.std.specs.Char.{is_ascii_alphanumeric}
use Rattle.std.specs.Str.{chars}
use denote.Ref.{Bor}
use Rattle.sjs_lexer.specs.Characters.{is_line_end, is_white, is_in_line}
use Rattle.sjs_lexer.specs.Digits.{then_with, push_digit}
use Rattle.sjs_lexer.specs.Escapes.{is_scalar, is_high, is_low, joined, escaped}

abbrev pub Read : Type 0 → Type 0
Read A = Option (A × List ℕ)

-- what the code read, with the characters of what it left
abbrev pub seen : {A : Type 0} → Option (A × Bor (List ℕ)) → Read A
seen r = option_map (λ x. (x.0, chars x.1.now)) r

-- what stands behind the characters that pass
abbrev pub skip_while : (ℕ → Bool) → List ℕ → List ℕ
skip_while passes [] = []
skip_while passes (c ∷ cs) = if passes c then skip_while passes cs else c ∷ cs

-- what stands behind a character, if it stands first
abbrev pub behind_char : ℕ → List ℕ → Option (List ℕ)
behind_char first [] = None
behind_char first (c ∷ cs) = if c == first then Some cs else None

abbrev pub read_or : Option (List ℕ) → Bool → Read Bool → Read Bool
read_or None broken other = other
read_or (Some rest) broken other = Some (broken, rest)

-- past the end of a comment, and whether a line ended before
abbrev pub past_block : Bool → List ℕ → Read Bool
past_block broken [] = None
past_block broken (c ∷ cs) =
    read_or (if c == 42 then behind_char 47 cs else None) broken
    (past_block (broken || is_line_end c) cs)

-- past a comment, from its second character on
abbrev pub past_comment : List ℕ → Read Bool
past_comment [] = None
past_comment (c ∷ cs) =
    if c == 47 then Some (false, skip_while is_in_line cs)
    else (if c == 42 then past_block false cs else None)

-- past a white space character or a comment, and whether a line ended in it
abbrev pub past_gap : List ℕ → Read Bool
past_gap [] = None
past_gap (c ∷ cs) =
    if is_white c then Some (is_line_end c, cs) else (if c == 47 then past_comment cs else None)

-- the rest of a number: letters and digits, all of them digits of the base, and no dot behind
abbrev pub number_from : ℕ → ℕ → List ℕ → Read ℕ
number_from base number [] = Some (number, [])
number_from base number (c ∷ cs) =
    if is_ascii_alphanumeric c then
    then_with (push_digit base 9007199254740991 number c) (λ more. number_from base more cs)
    else (if c == 46 then None else Some (number, c ∷ cs))

-- so many hexadecimal digits behind a number so far
abbrev pub hex_from : ℕ → ℕ → List ℕ → Read ℕ
hex_from zero number left = Some (number, left)
hex_from (suc count) number [] = None
hex_from (suc count) number (c ∷ cs) =
    then_with (push_digit 16 1114111 number c) (λ more. hex_from count more cs)

-- hexadecimal digits behind a number so far, up to a closing brace
abbrev pub braced_from : ℕ → List ℕ → Read ℕ
braced_from number [] = None
braced_from number (c ∷ cs) =
    if c == 125 then Some (number, cs)
    else then_with (push_digit 16 1114111 number c) (λ more. braced_from more cs)

-- the number behind `0x`
abbrev pub hex_number_at : List ℕ → Read ℕ
hex_number_at [] = None
hex_number_at (c ∷ cs) =
    then_with (push_digit 16 9007199254740991 0 c) (λ number. number_from 16 number cs)

-- the number behind a first `0`
abbrev pub behind_zero_at : List ℕ → Read ℕ
behind_zero_at [] = Some (0, [])
behind_zero_at (c ∷ cs) =
    if c == 120 then hex_number_at cs
    else (if is_ascii_alphanumeric c || c == 46 then None else Some (0, c ∷ cs))

-- the number that stands first
abbrev pub number_at : List ℕ → Read ℕ
number_at [] = None
number_at (c ∷ cs) =
    if c == 48 then behind_zero_at cs
    else then_with (push_digit 10 9007199254740991 0 c) (λ number. number_from 10 number cs)

-- the character of a code, if it is one
abbrev pub scalar_at : ℕ → List ℕ → Read ℕ
scalar_at code left = if is_scalar code then Some (code, left) else None

abbrev pub read_on : {A B : Type 0} → Read A → (A → List ℕ → Read B) → Read B
read_on None f = None
read_on (Some x) f = f x.0 x.1

-- behind the first of two surrogates and a backslash: `u` and the second
abbrev pub low_at : ℕ → List ℕ → Read ℕ
low_at high [] = None
low_at high (c ∷ cs) =
    if c == 117 then
    read_on (hex_from 4 0 cs)
    (λ low left. if is_low low then scalar_at (joined high low) left else None)
    else None

-- behind the first of two surrogates
abbrev pub pair_at : ℕ → List ℕ → Read ℕ
pair_at high [] = None
pair_at high (c ∷ cs) = if c == 92 then low_at high cs else None

-- the character that a code of four digits begins
abbrev pub code_at : ℕ → List ℕ → Read ℕ
code_at code left = if is_high code then pair_at code left else scalar_at code left

-- behind `u{`
abbrev pub braced_at : List ℕ → Read ℕ
braced_at [] = None
braced_at (c ∷ cs) =
    then_with (push_digit 16 1114111 0 c) (λ number. read_on (braced_from number cs) scalar_at)

-- behind `u`
abbrev pub unicode_at : List ℕ → Read ℕ
unicode_at [] = None
unicode_at (c ∷ cs) = if c == 123 then braced_at cs else read_on (hex_from 4 0 (c ∷ cs)) code_at

-- behind a backslash
abbrev pub escape_at : List ℕ → Read ℕ
escape_at [] = None
escape_at (c ∷ cs) =
    if c == 120 then read_on (hex_from 2 0 cs) scalar_at
    else (if c == 117 then unicode_at cs else option_map (λ v. (v, cs)) (escaped c))

-- the character of a text between these quotes that stands first
abbrev pub piece_at : ℕ → List ℕ → Read ℕ
piece_at quote [] = None
piece_at quote (c ∷ cs) =
    if c == quote then None
    else (if is_line_end c then None else (if c == 92 then escape_at cs else Some (c, cs)))

-- characters of a text between these quotes, from one place on to another
pub data Pieces (quote : ℕ) : List ℕ → List ℕ → List ℕ → Type 0 where
  pieces_none : {left : List ℕ} → Pieces quote left [] left
  pieces_more : {left : List ℕ} (next : List ℕ) {rest : List ℕ} {c : ℕ} {cs : List ℕ} →
      piece_at quote left ≡ Some (c, next) → Pieces quote next cs rest →
      Pieces quote left (c ∷ cs) rest

-- what stands behind so many characters
abbrev pub behind : ℕ → List ℕ → Option (List ℕ)
behind zero left = Some left
behind (suc count) [] = None
behind (suc count) (c ∷ cs) = behind count cs
