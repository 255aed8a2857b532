-- The characters of a text between quotes, as they are read and as they are defined.
use Rattle.std.proofs.Common.{◌≡◌, ℕ, zero, suc, ◌<◌, ◌==◌, List, [], ◌∷◌, ◌++◌, length, true}
use Rattle.std.proofs.Common.{false, Some, None, refl, sym, ap, subst, ◌∙◌, arith, append_assoc}
use Rattle.std.specs.Prelude.{if◌then◌else◌, option_map}
use Rattle.std.proofs.lemmas.Bool.Decides.{nat_tests}
use Rattle.std.proofs.lemmas.List.{length-append}
use Rattle.sjs_lexer.specs.Characters.{is_line_end}
use Rattle.sjs_lexer.specs.Digits.{then_with, push_digit, written_from, written}
use Rattle.sjs_lexer.specs.Escapes.{escaped, itself, is_scalar, is_high, is_low, joined}
use Rattle.sjs_lexer.specs.Reading.{read_on, hex_from, braced_from, scalar_at, low_at, pair_at}
use Rattle.sjs_lexer.specs.Reading.{code_at, braced_at, unicode_at, escape_at, piece_at, Pieces}
use Rattle.sjs_lexer.specs.Reading.{pieces_none, pieces_more}
use Rattle.sjs_lexer.specs.Tokens.{is_quote, is_plain, IsPiece, plain, short, hex, unicode, pair}
use Rattle.sjs_lexer.specs.Tokens.{braced, Spells, spells_none, spells_more}
use Rattle.sjs_lexer.proofs.Options.{then_some, read_some, if_some, if_none}

-- one digit, and more behind it
pub push_on : (base limit number d : ℕ) (ds : List ℕ) (more code : ℕ)
    → push_digit base limit number d ≡ Some more → written_from base limit more ds ≡ Some code
    → written_from base limit number (d ∷ ds) ≡ Some code
push_on base limit number d ds more code pushed is = rw pushed is

-- digits, and what stands behind them
pub record IsHex (count number : ℕ) (text : List ℕ) (found : ℕ × List ℕ) : Type 0 where
  pub digits : List ℕ
  pub split : text ≡ digits ++ found.1
  pub count_is : length digits ≡ count
  pub is : written_from 16 1114111 number digits ≡ Some found.0

pub hex_of : (count number : ℕ) (text : List ℕ) (found : ℕ × List ℕ)
    → hex_from count number text ≡ Some found → IsHex count number text found
hex_of zero number text found h =
    let same : (number, text) ≡ found = cc in
    record {
      digits =
          [];
      split = ap (λ f. f.1) same;
      count_is = refl;
      is = ap (λ f. Some f.0) same;
    }
hex_of (suc count) number [] found h = cc
hex_of (suc count) number (c ∷ cs) found h =
    let first =
    then_some (push_digit 16 1114111 number c) (λ more. hex_from count more cs) found h in
    let more = hex_of count first.0 cs found first.2 in
    let pushed : push_digit 16 1114111 number c ≡ Some first.0 = first.1 in
    record {
      digits = c ∷ more.digits;
      split = ap (λ t. c ∷ t) more.split;
      count_is = ap suc more.count_is;
      is = push_on 16 1114111 number c more.digits first.0 found.0 pushed more.is;
    }

pub hex_is_read : (count number : ℕ) (digits rest : List ℕ) (code : ℕ) → length digits ≡ count
    → written_from 16 1114111 number digits ≡ Some code
    → hex_from count number (digits ++ rest) ≡ Some (code, rest)
hex_is_read zero number [] rest code size is = ap (λ o. then_with o (λ x. Some (x, rest))) is
hex_is_read zero number (d ∷ ds) rest code size is = absurd (omega arith)
hex_is_read (suc count) number [] rest code size is = absurd (omega arith)
hex_is_read (suc count) number (d ∷ ds) rest code size is =
    let first =
    then_some (push_digit 16 1114111 number d) (λ more. written_from 16 1114111 more ds) code is
    in
    let pushed : push_digit 16 1114111 number d ≡ Some first.0 = first.1 in
    rw pushed (hex_is_read count first.0 ds rest code (omega arith) first.2)

-- a digit is no brace
brace_is_no_digit : (number code : ℕ) → push_digit 16 1114111 number 125 ≡ Some code → ⊥
unfolding push_digit
brace_is_no_digit number code h = cc

pub record IsBraced (number : ℕ) (text : List ℕ) (found : ℕ × List ℕ) : Type 0 where
  pub digits : List ℕ
  pub split : text ≡ digits ++ 125 ∷ found.1
  pub is : written_from 16 1114111 number digits ≡ Some found.0

pub braced_of : (number : ℕ) (text : List ℕ) (found : ℕ × List ℕ)
    → braced_from number text ≡ Some found → IsBraced number text found
braced_of number [] found h = cc
braced_of number (c ∷ cs) found h =
    elim (c == 125) as
    (λ b. (c == 125) ≡ b
    → (if b then Some (number, cs)
    else then_with (push_digit 16 1114111 number c)
    (λ more. braced_from more cs)) ≡ Some found → IsBraced number (c ∷ cs) found) [
      | true ↦ λ brace h.
          let same : (number, cs) ≡ found = cc in
          let is : c ≡ 125 = grind (arith, nat_tests) in
          record {
            digits =
                [];
            split =
                ap (λ x. x ∷ cs) is ∙ ap (λ f. 125 ∷ f.1) same;
            is = ap (λ f. Some f.0) same;
          }
      | false ↦ λ brace h.
          let first =
          then_some (push_digit 16 1114111 number c) (λ more. braced_from more cs) found h in
          let more = braced_of first.0 cs found first.2 in
          let pushed : push_digit 16 1114111 number c ≡ Some first.0 = first.1 in
          record {
            digits =
                c ∷ more.digits;
            split =
                ap (λ t. c ∷ t) more.split;
            is =
                push_on 16 1114111 number c more.digits first.0 found.0 pushed more.is;
          }
    ] refl h

pub braced_is_read : (number : ℕ) (digits rest : List ℕ) (code : ℕ)
    → written_from 16 1114111 number digits ≡ Some code
    → braced_from number (digits ++ 125 ∷ rest) ≡ Some (code, rest)
braced_is_read number [] rest code is = ap (λ o. then_with o (λ x. Some (x, rest))) is
braced_is_read number (d ∷ ds) rest code is =
    let first =
    then_some (push_digit 16 1114111 number d) (λ more. written_from 16 1114111 more ds) code is
    in
    let pushed : push_digit 16 1114111 number d ≡ Some first.0 = first.1 in
    let later : braced_from first.0 (ds ++ 125 ∷ rest) ≡ Some (code, rest) =
    braced_is_read first.0 ds rest code first.2 in
    elim (d == 125) as
    (λ b. (d == 125) ≡ b
    → (if b then Some (number, ds ++ 125 ∷ rest)
    else then_with (push_digit 16 1114111 number d)
    (λ more. braced_from more (ds ++ 125 ∷ rest))) ≡ Some (code, rest)) [
      | true ↦ λ brace.
          let is : d ≡ 125 = grind (arith, nat_tests) in
          absurd (brace_is_no_digit number first.0
          (ap (push_digit 16 1114111 number) (sym is) ∙ pushed))
      | false ↦ λ brace. rw pushed later
    ] refl

-- how a character is written, and what stands behind it
pub record IsRead (quote : ℕ) (text : List ℕ) (found : ℕ × List ℕ) : Type 0 where
  pub word : List ℕ
  pub split : text ≡ word ++ found.1
  pub is : IsPiece quote word found.0

scalar_of : (code : ℕ) (rest : List ℕ) (found : ℕ × List ℕ) → scalar_at code rest ≡ Some found
    → (is_scalar code ≡ true) × (code ≡ found.0) × (rest ≡ found.1)
scalar_of code rest found h =
    let both = if_some (is_scalar code) (Some (code, rest)) found h in
    let same : (code, rest) ≡ found = let e : Some (code, rest) ≡ Some found = both.1 in cc in
    (both.0, ap (λ f. f.0) same, ap (λ f. f.1) same)

written_is : (count : ℕ) (ds : List ℕ) (code : ℕ) → length ds ≡ suc count
    → written_from 16 1114111 0 ds ≡ Some code → written 16 1114111 ds ≡ Some code
written_is count [] code size is = absurd (omega arith)
written_is count (d ∷ ds) code size is = is

written_back : (ds : List ℕ) (code : ℕ) → written 16 1114111 ds ≡ Some code
    → written_from 16 1114111 0 ds ≡ Some code
written_back [] code is = cc
written_back (d ∷ ds) code is = is

hex_piece : (quote : ℕ) (cs : List ℕ) (found : ℕ × List ℕ)
    → read_on (hex_from 2 0 cs) scalar_at ≡ Some found → IsRead quote (92 ∷ 120 ∷ cs) found
hex_piece quote cs found h =
    let read = read_some (hex_from 2 0 cs) scalar_at found h in
    let digits = hex_of 2 0 cs read.0 read.1 in
    let code = scalar_of read.0.0 read.0.1 found read.2 in
    let is : written 16 1114111 digits.digits ≡ Some read.0.0 =
    written_is 1 digits.digits read.0.0 digits.count_is digits.is in
    let P : ℕ → Type 0 = λ x. IsPiece quote (92 ∷ 120 ∷ digits.digits) x in
    record {
      word = 92 ∷ 120 ∷ digits.digits;
      split = ap (λ t. 92 ∷ 120 ∷ t) (digits.split ∙ ap (λ t. digits.digits ++ t) code.2);
      is = subst P code.1 (hex digits.count_is is code.0);
    }

unicode_piece : (quote : ℕ) (cs : List ℕ) (code : ℕ) (rest : List ℕ) (found : ℕ × List ℕ)
    → IsHex 4 0 cs (code, rest) → scalar_at code rest ≡ Some found
    → IsRead quote (92 ∷ 117 ∷ cs) found
unicode_piece quote cs code rest found digits h =
    let scalar = scalar_of code rest found h in
    let is : written 16 1114111 digits.digits ≡ Some code =
    written_is 3 digits.digits code digits.count_is digits.is in
    let P : ℕ → Type 0 = λ x. IsPiece quote (92 ∷ 117 ∷ digits.digits) x in
    record {
      word = 92 ∷ 117 ∷ digits.digits;
      split = ap (λ t. 92 ∷ 117 ∷ t) (digits.split ∙ ap (λ t. digits.digits ++ t) scalar.2);
      is = subst P scalar.1 (unicode digits.count_is is scalar.0);
    }

-- the second of two surrogates, behind `u`
low_piece : (quote : ℕ) (cs : List ℕ) (high : ℕ) (rest : List ℕ) (found : ℕ × List ℕ)
    → IsHex 4 0 cs (high, 92 ∷ 117 ∷ rest) → is_high high ≡ true
    → read_on (hex_from 4 0 rest)
    (λ low left. if is_low low then scalar_at (joined high low) left else None) ≡ Some found
    → IsRead quote (92 ∷ 117 ∷ cs) found
low_piece quote cs high rest found digits is_first h =
    let read =
    read_some (hex_from 4 0 rest)
    (λ low left. if is_low low then scalar_at (joined high low) left else None) found h in
    let lows = hex_of 4 0 rest read.0 read.1 in
    let low = if_some (is_low read.0.0) (scalar_at (joined high read.0.0) read.0.1) found read.2 in
    let scalar = scalar_of (joined high read.0.0) read.0.1 found low.1 in
    let first : written 16 1114111 digits.digits ≡ Some high =
    written_is 3 digits.digits high digits.count_is digits.is in
    let second : written 16 1114111 lows.digits ≡ Some read.0.0 =
    written_is 3 lows.digits read.0.0 lows.count_is lows.is in
    let P : ℕ → Type 0 =
    λ x. IsPiece quote (92 ∷ 117 ∷ (digits.digits ++ 92 ∷ 117 ∷ lows.digits)) x in
    record {
      word = 92 ∷ 117 ∷ (digits.digits ++ 92 ∷ 117 ∷ lows.digits);
      split =
          ap (λ t. 92 ∷ 117 ∷ t)
          (digits.split
          ∙ ap (λ t. digits.digits ++ 92 ∷ 117 ∷ t)
          (lows.split ∙ ap (λ t. lows.digits ++ t) scalar.2)
          ∙ sym (append_assoc digits.digits (92 ∷ 117 ∷ lows.digits) found.1));
      is =
          subst P scalar.1
          (pair digits.digits lows.digits high read.0.0 digits.count_is first is_first lows.count_is
          second low.0);
    }

u_piece : (quote : ℕ) (cs : List ℕ) (high : ℕ) (rest : List ℕ) (found : ℕ × List ℕ)
    → IsHex 4 0 cs (high, 92 ∷ rest) → is_high high ≡ true → low_at high rest ≡ Some found
    → IsRead quote (92 ∷ 117 ∷ cs) found
u_piece quote cs high [] found digits is_first h = cc
u_piece quote cs high (c ∷ rest) found digits is_first h =
    let both =
    if_some (c == 117)
    (read_on (hex_from 4 0 rest)
    (λ low left. if is_low low then scalar_at (joined high low) left else None)) found h in
    let test : (c == 117) ≡ true = both.0 in
    let is : c ≡ 117 = grind (arith, nat_tests) in
    let P : ℕ → Type 0 = λ x. IsHex 4 0 cs (high, 92 ∷ x ∷ rest) in
    low_piece quote cs high rest found (subst P is digits) is_first both.1

pair_piece : (quote : ℕ) (cs : List ℕ) (high : ℕ) (rest : List ℕ) (found : ℕ × List ℕ)
    → IsHex 4 0 cs (high, rest) → is_high high ≡ true → pair_at high rest ≡ Some found
    → IsRead quote (92 ∷ 117 ∷ cs) found
pair_piece quote cs high [] found digits is_first h = cc
pair_piece quote cs high (c ∷ rest) found digits is_first h =
    let both = if_some (c == 92) (low_at high rest) found h in
    let test : (c == 92) ≡ true = both.0 in
    let is : c ≡ 92 = grind (arith, nat_tests) in
    let P : ℕ → Type 0 = λ x. IsHex 4 0 cs (high, x ∷ rest) in
    u_piece quote cs high rest found (subst P is digits) is_first both.1

code_piece : (quote : ℕ) (cs : List ℕ) (found : ℕ × List ℕ)
    → read_on (hex_from 4 0 cs) code_at ≡ Some found → IsRead quote (92 ∷ 117 ∷ cs) found
code_piece quote cs found h =
    let read = read_some (hex_from 4 0 cs) code_at found h in
    let digits = hex_of 4 0 cs read.0 read.1 in
    elim (is_high read.0.0) as
    (λ b. is_high read.0.0 ≡ b
    → (if b then pair_at read.0.0 read.0.1 else scalar_at read.0.0 read.0.1) ≡ Some found
    → IsRead quote (92 ∷ 117 ∷ cs) found) [
      | true ↦ λ is h. pair_piece quote cs read.0.0 read.0.1 found digits is h
      | false ↦ λ is h. unicode_piece quote cs read.0.0 read.0.1 found digits h
    ] refl read.2

braced_piece : (quote : ℕ) (cs : List ℕ) (found : ℕ × List ℕ) → braced_at cs ≡ Some found
    → IsRead quote (92 ∷ 117 ∷ 123 ∷ cs) found
braced_piece quote [] found h = cc
braced_piece quote (c ∷ cs) found h =
    let first =
    then_some (push_digit 16 1114111 0 c) (λ number. read_on (braced_from number cs) scalar_at)
    found h in
    let pushed : push_digit 16 1114111 0 c ≡ Some first.0 = first.1 in
    let read = read_some (braced_from first.0 cs) scalar_at found first.2 in
    let digits = braced_of first.0 cs read.0 read.1 in
    let code = scalar_of read.0.0 read.0.1 found read.2 in
    let is : written 16 1114111 (c ∷ digits.digits) ≡ Some read.0.0 =
    push_on 16 1114111 0 c digits.digits first.0 read.0.0 pushed digits.is in
    let P : ℕ → Type 0 =
    λ x. IsPiece quote (92 ∷ 117 ∷ 123 ∷ ((c ∷ digits.digits) ++ 125 ∷ [])) x in
    record {
      word = 92 ∷ 117 ∷ 123 ∷ ((c ∷ digits.digits) ++ 125 ∷ []);
      split =
          ap (λ t. 92 ∷ 117 ∷ 123 ∷ c ∷ t)
          (digits.split ∙ ap (λ t. digits.digits ++ 125 ∷ t) code.2
          ∙ sym (append_assoc digits.digits (125 ∷ []) found.1));
      is = subst P code.1 (braced (c ∷ digits.digits) is code.0);
    }

unicode_of : (quote : ℕ) (cs : List ℕ) (found : ℕ × List ℕ) → unicode_at cs ≡ Some found
    → IsRead quote (92 ∷ 117 ∷ cs) found
unicode_of quote [] found h = cc
unicode_of quote (c ∷ cs) found h =
    elim (c == 123) as
    (λ b. (c == 123) ≡ b
    → (if b then braced_at cs else read_on (hex_from 4 0 (c ∷ cs)) code_at) ≡ Some found
    → IsRead quote (92 ∷ 117 ∷ c ∷ cs) found) [
      | true ↦ λ brace h. let is : 123 ≡ c = grind (arith, nat_tests) in
          let P : ℕ → Type 0 = λ x. IsRead quote (92 ∷ 117 ∷ x ∷ cs) found in
          subst P is (braced_piece quote cs found h)
      | false ↦ λ brace h. code_piece quote (c ∷ cs) found h
    ] refl h

short_piece : (quote c : ℕ) (cs : List ℕ) (found : ℕ × List ℕ)
    → option_map (λ v. (v, cs)) (escaped c) ≡ Some found → IsRead quote (92 ∷ c ∷ cs) found
short_piece quote c cs found h =
    elim (escaped c) as
    (λ o. escaped c ≡ o → option_map (λ v. (v, cs)) o ≡ Some found
    → IsRead quote (92 ∷ c ∷ cs) found) [
      | Some v ↦ λ is h.
          let same : (v, cs) ≡ found = cc in
          let P : ℕ × List ℕ → Type 0 = λ f. IsRead quote (92 ∷ c ∷ cs) f in
          subst P same (record { word = 92 ∷ c ∷ []; split = refl; is = short is })
      | None ↦ λ is h. cc
    ] refl h

escape_of : (quote : ℕ) (cs : List ℕ) (found : ℕ × List ℕ) → escape_at cs ≡ Some found
    → IsRead quote (92 ∷ cs) found
escape_of quote [] found h = cc
escape_of quote (c ∷ cs) found h =
    elim (c == 120) as
    (λ b. (c == 120) ≡ b
    → (if b then read_on (hex_from 2 0 cs) scalar_at
    else (if c == 117 then unicode_at cs
    else option_map (λ v. (v, cs))
    (escaped c))) ≡ Some found → IsRead quote (92 ∷ c ∷ cs) found) [
      | true ↦ λ x h. let is : 120 ≡ c = grind (arith, nat_tests) in
          let P : ℕ → Type 0 = λ x. IsRead quote (92 ∷ x ∷ cs) found in
          subst P is (hex_piece quote cs found h)
      | false ↦ λ x h.
          elim (c == 117) as
          (λ b. (c == 117) ≡ b
          → (if b then unicode_at cs else option_map (λ v. (v, cs)) (escaped c)) ≡ Some found
          → IsRead quote (92 ∷ c ∷ cs) found) [
            | true ↦ λ u h. let is : 117 ≡ c = grind (arith, nat_tests) in
                let P : ℕ → Type 0 = λ x. IsRead quote (92 ∷ x ∷ cs) found in
                subst P is (unicode_of quote cs found h)
            | false ↦ λ u h. short_piece quote c cs found h
          ] refl h
    ] refl h

pub piece_of : (quote : ℕ) (text : List ℕ) (found : ℕ × List ℕ) → piece_at quote text ≡ Some found
    → IsRead quote text found
piece_of quote [] found h = cc
piece_of quote (c ∷ cs) found h =
    let first =
    if_none (c == quote)
    (if is_line_end c then None else (if c == 92 then escape_at cs else Some (c, cs))) found h
    in
    let second =
    if_none (is_line_end c) (if c == 92 then escape_at cs else Some (c, cs)) found first.1 in
    elim (c == 92) as
    (λ b. (c == 92) ≡ b → (if b then escape_at cs else Some (c, cs)) ≡ Some found
    → IsRead quote (c ∷ cs) found) [
      | true ↦ λ slash h. let is : 92 ≡ c = grind (arith, nat_tests) in
          let P : ℕ → Type 0 = λ x. IsRead quote (x ∷ cs) found in
          subst P is (escape_of quote cs found h)
      | false ↦ λ slash h.
          let same : (c, cs) ≡ found = cc in
          let P : ℕ × List ℕ → Type 0 = λ f. IsRead quote (c ∷ cs) f in
          let is : is_plain quote c ≡ true = rw (first.0, second.0, slash) in
          subst P same (record { word = c ∷ []; split = refl; is = plain is })
    ] refl second.1

-- a quote begins no character
quote_is_other : (quote : ℕ) → is_quote quote ≡ true → (92 == quote) ≡ false
quote_is_other quote is = grind (arith, nat_tests)

slash_is_in_line : is_line_end 92 ≡ false
unfolding is_line_end
slash_is_in_line = refl

escape_is_read : (quote : ℕ) (cs : List ℕ) → is_quote quote ≡ true
    → piece_at quote (92 ∷ cs) ≡ escape_at cs
escape_is_read quote cs is = rw (quote_is_other quote is, slash_is_in_line)

-- the two characters that begin longer escapes stand for nothing themselves
longer_escapes : (escaped 120 ≡ None) × (escaped 117 ≡ None)
unfolding escaped itself
longer_escapes = (refl, refl)

short_is_read : (c v : ℕ) (cs : List ℕ) → escaped c ≡ Some v → escape_at (c ∷ cs) ≡ Some (v, cs)
short_is_read c v cs is =
    elim (c == 120) as
    (λ b. (c == 120) ≡ b
    → (if b then read_on (hex_from 2 0 cs) scalar_at
    else (if c == 117 then unicode_at cs else option_map (λ v. (v, cs)) (escaped c))) ≡ Some (
      v,
      cs,
    )) [
      | true ↦ λ x. let same : c ≡ 120 = grind (arith, nat_tests) in
          let no : Some v ≡ None = sym is ∙ ap escaped same ∙ longer_escapes.0 in cc
      | false ↦ λ x.
          elim (c == 117) as
          (λ b. (c == 117) ≡ b
          → (if b then unicode_at cs else option_map (λ v. (v, cs)) (escaped c))
          ≡ Some (v, cs)) [
            | true ↦ λ u. let same : c ≡ 117 = grind (arith, nat_tests) in
                let no : Some v ≡ None = sym is ∙ ap escaped same ∙ longer_escapes.1 in cc
            | false ↦ λ u. rw is
          ] refl
    ] refl

scalar_is_read : (code : ℕ) (rest : List ℕ) → is_scalar code ≡ true
    → scalar_at code rest ≡ Some (code, rest)
scalar_is_read code rest is = rw is

scalar_is_not_high : (code : ℕ) → is_scalar code ≡ true → is_high code ≡ false
unfolding is_scalar is_high
scalar_is_not_high code is = grind (arith, nat_tests)

pair_is_scalar : (high low : ℕ) → is_high high ≡ true → is_low low ≡ true
    → is_scalar (joined high low) ≡ true
unfolding is_scalar is_high is_low joined
pair_is_scalar high low first second = grind (arith, nat_tests)

hex_escape_is_read : (ds rest : List ℕ) (code : ℕ) → length ds ≡ 2
    → written 16 1114111 ds ≡ Some code → is_scalar code ≡ true
    → escape_at (120 ∷ (ds ++ rest)) ≡ Some (code, rest)
hex_escape_is_read ds rest code size is scalar =
    let read : hex_from 2 0 (ds ++ rest) ≡ Some (code, rest) =
    hex_is_read 2 0 ds rest code size (written_back ds code is) in
    ap (λ o. read_on o scalar_at) read ∙ scalar_is_read code rest scalar

open_is_no_digit : (code : ℕ) → push_digit 16 1114111 0 123 ≡ Some code → ⊥
unfolding push_digit
open_is_no_digit code h = cc

-- four digits begin with no brace
four_are_read : (ds rest : List ℕ) (code : ℕ) → length ds ≡ 4 → written 16 1114111 ds ≡ Some code
    → unicode_at (ds ++ rest) ≡ code_at code rest
four_are_read [] rest code size is = cc
four_are_read (d ∷ ds) rest code size is =
    let read : hex_from 4 0 ((d ∷ ds) ++ rest) ≡ Some (code, rest) =
    hex_is_read 4 0 (d ∷ ds) rest code size is in
    let first =
    then_some (push_digit 16 1114111 0 d) (λ more. written_from 16 1114111 more ds) code is in
    let reads : read_on (hex_from 4 0 ((d ∷ ds) ++ rest)) code_at ≡ code_at code rest =
    ap (λ o. read_on o code_at) read in
    elim (d == 123) as
    (λ b. (d == 123) ≡ b
    → (if b then braced_at (ds ++ rest) else read_on (hex_from 4 0 ((d ∷ ds) ++ rest)) code_at)
    ≡ code_at code rest) [
      | true ↦ λ brace.
          let same : d ≡ 123 = grind (arith, nat_tests) in
          absurd (open_is_no_digit first.0 (ap (push_digit 16 1114111 0) (sym same) ∙ first.1))
      | false ↦ λ brace. reads
    ] refl

unicode_is_read : (ds rest : List ℕ) (code : ℕ) → length ds ≡ 4 → written 16 1114111 ds ≡ Some code
    → is_scalar code ≡ true → unicode_at (ds ++ rest) ≡ Some (code, rest)
unicode_is_read ds rest code size is scalar =
    four_are_read ds rest code size is ∙ rw (scalar_is_not_high code scalar, scalar)

pair_is_read : (ds es rest : List ℕ) (high low : ℕ) → length ds ≡ 4
    → written 16 1114111 ds ≡ Some high → is_high high ≡ true → length es ≡ 4
    → written 16 1114111 es ≡ Some low → is_low low ≡ true
    → unicode_at (ds ++ 92 ∷ 117 ∷ (es ++ rest)) ≡ Some (joined high low, rest)
pair_is_read ds es rest high low size is first size_low is_low_code second =
    let read : hex_from 4 0 (es ++ rest) ≡ Some (low, rest) =
    hex_is_read 4 0 es rest low size_low (written_back es low is_low_code) in
    let scalar : is_scalar (joined high low) ≡ true = pair_is_scalar high low first second in
    let ends : low_at high (117 ∷ (es ++ rest)) ≡ Some (joined high low, rest) =
    ap (λ o. read_on o
    (λ low left. if is_low low then scalar_at (joined high low) left
    else None)) read ∙ rw (second, scalar) in
    let begins : code_at high (92 ∷ 117 ∷ (es ++ rest)) ≡ low_at high (117 ∷ (es ++ rest)) =
    rw first in
    four_are_read ds (92 ∷ 117 ∷ (es ++ rest)) high size is ∙ begins ∙ ends

braced_escape_is_read : (ds rest : List ℕ) (code : ℕ) → written 16 1114111 ds ≡ Some code
    → is_scalar code ≡ true → braced_at (ds ++ 125 ∷ rest) ≡ Some (code, rest)
braced_escape_is_read [] rest code is scalar = cc
braced_escape_is_read (d ∷ ds) rest code is scalar =
    let first =
    then_some (push_digit 16 1114111 0 d) (λ more. written_from 16 1114111 more ds) code is in
    let read : braced_from first.0 (ds ++ 125 ∷ rest) ≡ Some (code, rest) =
    braced_is_read first.0 ds rest code first.2 in
    ap (λ o. then_with o (λ number. read_on (braced_from number (ds ++ 125 ∷ rest)) scalar_at))
    first.1
    ∙ ap (λ o. read_on o scalar_at) read
    ∙ scalar_is_read code rest scalar

pub piece_is_some : (quote : ℕ) (word : List ℕ) (c : ℕ) → IsPiece quote word c → 0 < length word
piece_is_some quote _ c (plain is) = omega arith
piece_is_some quote _ c (short known) = omega arith
piece_is_some quote _ c (hex size known scalar) = omega arith
piece_is_some quote _ c (unicode size known scalar) = omega arith
piece_is_some quote _ _ (pair ds es high low size known first size_low known_low second) =
    omega arith
piece_is_some quote _ c (braced ds known scalar) = omega arith

-- each character is read as it is written
pub piece_is_read : (quote : ℕ) (word rest : List ℕ) (c : ℕ) → is_quote quote ≡ true
    → IsPiece quote word c → piece_at quote (word ++ rest) ≡ Some (c, rest)
piece_is_read quote _ rest c is (plain itself_is) =
    let no_quote : (c == quote) ≡ false = grind (arith, nat_tests) in
    let no_end : is_line_end c ≡ false = grind (arith, nat_tests) in
    let no_slash : (c == 92) ≡ false = grind (arith, nat_tests) in
    rw (no_quote, no_end, no_slash)
piece_is_read quote _ rest c is (short {c = e} known) =
    escape_is_read quote (e ∷ rest) is ∙ short_is_read e c rest known
piece_is_read quote _ rest c is (hex {ds} size known scalar) =
    escape_is_read quote (120 ∷ (ds ++ rest)) is ∙ hex_escape_is_read ds rest c size known scalar
piece_is_read quote _ rest c is (unicode {ds} size known scalar) =
    escape_is_read quote (117 ∷ (ds ++ rest)) is ∙ unicode_is_read ds rest c size known scalar
piece_is_read quote _ rest _ is (pair ds es high low size known first size_low known_low second) =
    let together : (ds ++ 92 ∷ 117 ∷ es) ++ rest ≡ ds ++ 92 ∷ 117 ∷ (es ++ rest) =
    append_assoc ds (92 ∷ 117 ∷ es) rest in
    escape_is_read quote (117 ∷ ((ds ++ 92 ∷ 117 ∷ es) ++ rest)) is
    ∙ ap unicode_at together
    ∙ pair_is_read ds es rest high low size known first size_low known_low second
piece_is_read quote _ rest c is (braced ds known scalar) =
    escape_is_read quote (117 ∷ 123 ∷ ((ds ++ 125 ∷ []) ++ rest)) is
    ∙ ap braced_at (append_assoc ds (125 ∷ []) rest)
    ∙ braced_escape_is_read ds rest c known scalar

-- one character more
pub pieces_push : (quote : ℕ) (start cs here rest : List ℕ) (c : ℕ) → Pieces quote start cs here
    → piece_at quote here ≡ Some (c, rest) → Pieces quote start (cs ++ c ∷ []) rest
pieces_push quote start _ here rest c pieces_none read = pieces_more rest read pieces_none
pieces_push quote start _ here rest c (pieces_more next first more) read =
    pieces_more next first (pieces_push quote next _ here rest c more read)

pub piece_shorter : (quote c : ℕ) (text rest : List ℕ) → piece_at quote text ≡ Some (c, rest)
    → length rest < length text
piece_shorter quote c text rest read =
    let piece = piece_of quote text (c, rest) read in
    let some : 0 < length piece.word = piece_is_some quote piece.word c piece.is in
    omega (arith, simp length-append at (ap length piece.split))

-- characters that are read are written
pub record AreWritten (quote : ℕ) (start cs here : List ℕ) : Type 0 where
  pub word : List ℕ
  pub split : start ≡ word ++ here
  pub are : Spells quote word cs

pub written_of : (quote : ℕ) (start cs here : List ℕ) → Pieces quote start cs here
    → AreWritten quote start cs here
written_of quote start _ here pieces_none = record { word = []; split = refl; are = spells_none }
written_of quote start _ here (pieces_more next {c = c} read more) =
    let piece = piece_of quote start (c, next) read in
    let behind = written_of quote next _ here more in
    record {
      word = piece.word ++ behind.word;
      split =
          piece.split ∙ ap (λ t. piece.word ++ t) behind.split
          ∙ sym (append_assoc piece.word behind.word here);
      are = spells_more piece.word behind.word piece.is behind.are;
    }

-- characters that are written are read
pub written_are_read : (quote : ℕ) (word cs rest : List ℕ) → is_quote quote ≡ true
    → Spells quote word cs → Pieces quote (word ++ rest) cs rest
written_are_read quote _ _ rest is spells_none = pieces_none
written_are_read quote _ _ rest is (spells_more w ws {cs} {c} piece more) =
    let behind : Pieces quote (ws ++ rest) cs rest = written_are_read quote ws cs rest is more in
    let P : List ℕ → Type 0 = λ t. Pieces quote t (c ∷ cs) rest in
    subst P (sym (append_assoc w ws rest))
    (pieces_more (ws ++ rest) (piece_is_read quote w (ws ++ rest) c is piece) behind)

-- one way to read as many characters as there are
pub one_reading : (quote : ℕ) (start cs ds here there : List ℕ) → Pieces quote start cs here
    → Pieces quote start ds there → piece_at quote here ≡ None → piece_at quote there ≡ None
    → (cs ≡ ds) × (here ≡ there)
one_reading quote start _ _ here there pieces_none pieces_none last end = (refl, refl)
one_reading quote start _ _ here there pieces_none (pieces_more next read more) last end = cc
one_reading quote start _ _ here there (pieces_more next read more) pieces_none last end = cc
one_reading quote start _ _ here there (pieces_more next {c = c} {cs = cs} read more)
    (pieces_more other {c = d} {cs = ds} read_too more_too) last end =
    let one : ℕ × List ℕ = (c, next) in
    let two : ℕ × List ℕ = (d, other) in
    let both : Some one ≡ Some two = sym read ∙ read_too in
    let same : one ≡ two = cc in
    let same_c : c ≡ d = ap (λ f. f.0) same in
    let same_next : next ≡ other = ap (λ f. f.1) same in
    let P : List ℕ → Type 0 = λ t. Pieces quote t ds there in
    let rest =
    one_reading quote next cs ds here there more (subst P (sym same_next) more_too) last end in
    (ap (λ x. x ∷ cs) same_c ∙ ap (λ t. d ∷ t) rest.0, rest.1)

pub quote_is_no_piece : (quote : ℕ) (rest : List ℕ) → piece_at quote (quote ∷ rest) ≡ None
quote_is_no_piece quote rest = let same : (quote == quote) ≡ true = grind (arith, nat_tests) in
    rw same
