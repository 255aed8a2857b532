-- Numbers, as they are read and as they are defined.
use Rattle.std.proofs.Common.{◌≡◌, ℕ, ◌≤◌, ◌<◌, ◌==◌, ◌&&◌, ◌||◌, List, [], ◌∷◌, ◌++◌, Bool, true}
use Rattle.std.proofs.Common.{false, Some, None, refl, ap, subst, ◌∙◌, arith}
use Rattle.std.specs.Prelude.{if◌then◌else◌}
use Rattle.std.specs.Char.{is_ascii_alphanumeric, is_ascii_digit, digit_value}
use Rattle.std.specs.List.{list_all}
use Rattle.std.proofs.lemmas.Bool.Decides.{nat_tests}
use Rattle.sjs_lexer.specs.Digits.{then_with, push_digit, written_from, behind_zero, number_of}
use Rattle.sjs_lexer.specs.Reading.{number_from, hex_number_at, behind_zero_at, number_at}
use Rattle.sjs_lexer.proofs.Options.{then_some, if_some, if_none}
use Rattle.sjs_lexer.proofs.PiecesRead.{push_on}
use Rattle.sjs_lexer.proofs.Runs.{fails_first}

-- a letter, digit or dot
abbrev pub is_joined : ℕ → Bool
is_joined c = is_ascii_alphanumeric c || c == 46

-- digits behind a number so far, and nothing joined behind them
pub record IsNumber (base number : ℕ) (text : List ℕ) (found : ℕ × List ℕ) : Type 0 where
  pub digits : List ℕ
  pub split : text ≡ digits ++ found.1
  pub is : written_from base 9007199254740991 number digits ≡ Some found.0
  pub all : list_all is_ascii_alphanumeric digits ≡ true
  pub apart : fails_first is_joined found.1 ≡ true

pub number_from_of : (base number : ℕ) (text : List ℕ) (found : ℕ × List ℕ)
    → number_from base number text ≡ Some found → IsNumber base number text found
number_from_of base number [] found h =
    let same : (number, []) ≡ found = cc in
    let P : ℕ × List ℕ → Type 0 = λ f. IsNumber base number [] f in
    subst P same (record { digits = []; split = refl; is = refl; all = refl; apart = refl })
number_from_of base number (c ∷ cs) found h =
    elim (is_ascii_alphanumeric c) as
    (λ b. is_ascii_alphanumeric c ≡ b
    → (if b then then_with (push_digit base 9007199254740991 number c)
    (λ more. number_from base more cs)
    else (if c == 46 then None
    else Some (number, c ∷ cs))) ≡ Some found → IsNumber base number (c ∷ cs) found) [
      | true ↦ λ is h.
          let first =
          then_some (push_digit base 9007199254740991 number c)
          (λ more. number_from base more cs) found h in
          let more = number_from_of base first.0 cs found first.2 in
          record {
            digits = c ∷ more.digits;
            split = ap (λ t. c ∷ t) more.split;
            is = push_on base 9007199254740991 number c more.digits first.0 found.0 first.1 more.is;
            all = rw (is, more.all);
            apart = more.apart;
          }
      | false ↦ λ is h.
          let both = if_none (c == 46) (Some (number, c ∷ cs)) found h in
          let same : (number, c ∷ cs) ≡ found =
          let e : Some (number, c ∷ cs) ≡ Some found = both.1 in cc in
          let P : ℕ × List ℕ → Type 0 = λ f. IsNumber base number (c ∷ cs) f in
          subst P same
          (record { digits = []; split = refl; is = refl; all = refl; apart = rw (is, both.0) })
    ] refl h

-- a digit of a base up to 16 is a letter or a digit
digit_is_alphanumeric : (base number c more : ℕ) → base ≤ 16
    → push_digit base 9007199254740991 number c ≡ Some more → is_ascii_alphanumeric c ≡ true
unfolding push_digit
digit_is_alphanumeric base number c more small pushed =
    let value : digit_value c < base = grind (arith, nat_tests) in
    grind (arith, nat_tests)

pub digits_are_alphanumeric : (base number : ℕ) (digits : List ℕ) (code : ℕ) → base ≤ 16
    → written_from base 9007199254740991 number digits ≡ Some code
    → list_all is_ascii_alphanumeric digits ≡ true
digits_are_alphanumeric base number [] code small is = refl
digits_are_alphanumeric base number (d ∷ ds) code small is =
    let first =
    then_some (push_digit base 9007199254740991 number d)
    (λ more. written_from base 9007199254740991 more ds) code is in
    rw (
      digit_is_alphanumeric base number d first.0 small first.1,
      digits_are_alphanumeric base first.0 ds code small first.2,
    )

pub number_from_is_read : (base number : ℕ) (digits rest : List ℕ) (code : ℕ) → base ≤ 16
    → written_from base 9007199254740991 number digits ≡ Some code
    → fails_first is_joined rest ≡ true
    → number_from base number (digits ++ rest) ≡ Some (code, rest)
number_from_is_read base number [] [] code small is apart =
    ap (λ o. then_with o (λ x. Some (x, []))) is
number_from_is_read base number [] (c ∷ cs) code small is apart =
    let no_letter : is_ascii_alphanumeric c ≡ false = grind (arith, nat_tests) in
    let no_dot : (c == 46) ≡ false = grind (arith, nat_tests) in
    let same : Some number ≡ Some code = is in
    rw (no_letter, no_dot) (ap (λ o. then_with o (λ x. Some (x, c ∷ cs))) same)
number_from_is_read base number (d ∷ ds) rest code small is apart =
    let first =
    then_some (push_digit base 9007199254740991 number d)
    (λ more. written_from base 9007199254740991 more ds) code is in
    let letter : is_ascii_alphanumeric d ≡ true =
    digit_is_alphanumeric base number d first.0 small first.1 in
    let later : number_from base first.0 (ds ++ rest) ≡ Some (code, rest) =
    number_from_is_read base first.0 ds rest code small first.2 apart in
    let here : number_from base number ((d ∷ ds) ++ rest)
    ≡ then_with (push_digit base 9007199254740991 number d)
    (λ more. number_from base more (ds ++ rest)) = rw letter in
    here ∙ ap (λ o. then_with o (λ more. number_from base more (ds ++ rest))) first.1 ∙ later

-- a whole number, as it is read
pub record IsNumberAt (text : List ℕ) (found : ℕ × List ℕ) : Type 0 where
  pub word : List ℕ
  pub split : text ≡ word ++ found.1
  pub is : number_of word ≡ Some found.0
  pub all : list_all is_ascii_alphanumeric word ≡ true
  pub apart : fails_first is_joined found.1 ≡ true

hex_at : (cs : List ℕ) (found : ℕ × List ℕ) → hex_number_at cs ≡ Some found
    → IsNumberAt (48 ∷ 120 ∷ cs) found
hex_at [] found h = cc
hex_at (c ∷ cs) found h =
    let first =
    then_some (push_digit 16 9007199254740991 0 c) (λ number. number_from 16 number cs) found h
    in
    let more = number_from_of 16 first.0 cs found first.2 in
    let is : written_from 16 9007199254740991 0 (c ∷ more.digits) ≡ Some found.0 =
    push_on 16 9007199254740991 0 c more.digits first.0 found.0 first.1 more.is in
    record {
      word = 48 ∷ 120 ∷ c ∷ more.digits;
      split = ap (λ t. 48 ∷ 120 ∷ c ∷ t) more.split;
      is = is;
      all = digits_are_alphanumeric 16 0 (c ∷ more.digits) found.0 (omega arith) is;
      apart = more.apart;
    }

zero_at : (cs : List ℕ) (found : ℕ × List ℕ) → behind_zero_at cs ≡ Some found
    → IsNumberAt (48 ∷ cs) found
zero_at [] found h =
    let same : (0, []) ≡ found = cc in
    let P : ℕ × List ℕ → Type 0 = λ f. IsNumberAt (48 ∷ []) f in
    subst P same (record { word = 48 ∷ []; split = refl; is = refl; all = refl; apart = refl })
zero_at (c ∷ cs) found h =
    elim (c == 120) as
    (λ b. (c == 120) ≡ b
    → (if b then hex_number_at cs else (if is_joined c then None else Some (0, c ∷ cs)))
    ≡ Some found → IsNumberAt (48 ∷ c ∷ cs) found) [
      | true ↦ λ x h. let is : 120 ≡ c = grind (arith, nat_tests) in
          let P : ℕ → Type 0 = λ x. IsNumberAt (48 ∷ x ∷ cs) found in subst P is (hex_at cs found h)
      | false ↦ λ x h.
          let both = if_none (is_joined c) (Some (0, c ∷ cs)) found h in
          let same : (0, c ∷ cs) ≡ found = let e : Some (0, c ∷ cs) ≡ Some found = both.1 in cc in
          let P : ℕ × List ℕ → Type 0 = λ f. IsNumberAt (48 ∷ c ∷ cs) f in
          subst P same
          (record { word = 48 ∷ []; split = refl; is = refl; all = refl; apart = rw both.0 })
    ] refl h

pub number_at_of : (text : List ℕ) (found : ℕ × List ℕ) → number_at text ≡ Some found
    → IsNumberAt text found
number_at_of [] found h = cc
number_at_of (c ∷ cs) found h =
    elim (c == 48) as
    (λ b. (c == 48) ≡ b
    → (if b then behind_zero_at cs
    else then_with (push_digit 10 9007199254740991 0 c)
    (λ number. number_from 10 number cs)) ≡ Some found → IsNumberAt (c ∷ cs) found) [
      | true ↦ λ zero h. let is : 48 ≡ c = grind (arith, nat_tests) in
          let P : ℕ → Type 0 = λ x. IsNumberAt (x ∷ cs) found in subst P is (zero_at cs found h)
      | false ↦ λ zero h.
          let first =
          then_some (push_digit 10 9007199254740991 0 c) (λ number. number_from 10 number cs)
          found h in
          let more = number_from_of 10 first.0 cs found first.2 in
          let is : written_from 10 9007199254740991 0 (c ∷ more.digits) ≡ Some found.0 =
          push_on 10 9007199254740991 0 c more.digits first.0 found.0 first.1 more.is in
          record {
            word = c ∷ more.digits;
            split = ap (λ t. c ∷ t) more.split;
            is = rw zero is;
            all = digits_are_alphanumeric 10 0 (c ∷ more.digits) found.0 (omega arith) is;
            apart = more.apart;
          }
    ] refl h

behind_zero_is_read : (cs rest : List ℕ) (n : ℕ) → behind_zero cs ≡ Some n
    → fails_first is_joined rest ≡ true → behind_zero_at (cs ++ rest) ≡ Some (n, rest)
behind_zero_is_read [] [] n is apart = let same : Some 0 ≡ Some n = is in
    ap (λ o. then_with o (λ x. Some (x, []))) same
behind_zero_is_read [] (c ∷ cs) n is apart =
    let no_letter : is_ascii_alphanumeric c ≡ false = grind (arith, nat_tests) in
    let no_x : (c == 120) ≡ false = grind (arith, nat_tests) in
    let none : is_joined c ≡ false = grind (arith, nat_tests) in
    let same : Some 0 ≡ Some n = is in
    rw (no_x, none) (ap (λ o. then_with o (λ x. Some (x, c ∷ cs))) same)
behind_zero_is_read (c ∷ []) rest n is apart = let both = if_some (c == 120) None n is in
    let no : None ≡ Some n = both.1 in cc
behind_zero_is_read (c ∷ d ∷ ds) rest n is apart =
    let both = if_some (c == 120) (written_from 16 9007199254740991 0 (d ∷ ds)) n is in
    let first =
    then_some (push_digit 16 9007199254740991 0 d)
    (λ more. written_from 16 9007199254740991 more ds) n both.1 in
    let later : number_from 16 first.0 (ds ++ rest) ≡ Some (n, rest) =
    number_from_is_read 16 first.0 ds rest n (omega arith) first.2 apart in
    let here : behind_zero_at (c ∷ d ∷ (ds ++ rest)) ≡ hex_number_at (d ∷ (ds ++ rest)) =
    rw both.0 in
    here ∙ ap (λ o. then_with o (λ number. number_from 16 number (ds ++ rest))) first.1 ∙ later

pub number_is_read : (word rest : List ℕ) (n : ℕ) → number_of word ≡ Some n
    → fails_first is_joined rest ≡ true → number_at (word ++ rest) ≡ Some (n, rest)
number_is_read [] rest n is apart = cc
number_is_read (c ∷ cs) rest n is apart =
    elim (c == 48) as
    (λ b. (if b then behind_zero cs else written_from 10 9007199254740991 0 (c ∷ cs)) ≡ Some n
    → (if b then behind_zero_at (cs ++ rest)
    else then_with (push_digit 10 9007199254740991 0 c)
    (λ number. number_from 10 number (cs ++ rest))) ≡ Some (n, rest)) [
      | true ↦ λ is. behind_zero_is_read cs rest n is apart
      | false ↦ λ is.
          let first =
          then_some (push_digit 10 9007199254740991 0 c)
          (λ more. written_from 10 9007199254740991 more cs) n is in
          ap (λ o. then_with o (λ number. number_from 10 number (cs ++ rest))) first.1
          ∙ number_from_is_read 10 first.0 cs rest n (omega arith) first.2 apart
    ] is

decimal_is_digit : (c more : ℕ) → push_digit 10 9007199254740991 0 c ≡ Some more
    → is_ascii_digit c ≡ true
unfolding push_digit
decimal_is_digit c more pushed =
    let value : digit_value c < 10 = grind (arith, nat_tests) in
    grind (arith, nat_tests)

-- a number begins with a digit, and has letters and digits alone
pub number_begins : (word : List ℕ) (n : ℕ) → number_of word ≡ Some n
    → (c : ℕ) × (cs : List ℕ) × (word ≡ c ∷ cs) × (is_ascii_digit c ≡ true)
number_begins [] n is = cc
number_begins (c ∷ cs) n is =
    elim (c == 48) as
    (λ b. (c == 48) ≡ b
    → (if b then behind_zero cs else written_from 10 9007199254740991 0 (c ∷ cs)) ≡ Some n
    → (x : ℕ) × (xs : List ℕ) × (c ∷ cs ≡ x ∷ xs) × (is_ascii_digit x ≡ true)) [
      | true ↦ λ zero is. (c, cs, refl, grind (arith, nat_tests))
      | false ↦ λ zero is.
          let first =
          then_some (push_digit 10 9007199254740991 0 c)
          (λ more. written_from 10 9007199254740991 more cs) n is in
          (c, cs, refl, decimal_is_digit c first.0 first.1)
    ] refl is

number_is_alphanumeric_behind : (cs : List ℕ) (n : ℕ) → behind_zero cs ≡ Some n
    → list_all is_ascii_alphanumeric cs ≡ true
number_is_alphanumeric_behind [] n is = refl
number_is_alphanumeric_behind (c ∷ []) n is = let both = if_some (c == 120) None n is in
    let no : None ≡ Some n = both.1 in cc
number_is_alphanumeric_behind (c ∷ d ∷ ds) n is =
    let both = if_some (c == 120) (written_from 16 9007199254740991 0 (d ∷ ds)) n is in
    let x : c ≡ 120 = let test : (c == 120) ≡ true = both.0 in grind (arith, nat_tests) in
    let digits : list_all is_ascii_alphanumeric (d ∷ ds) ≡ true =
    digits_are_alphanumeric 16 0 (d ∷ ds) n (omega arith) both.1 in
    ap (λ c. is_ascii_alphanumeric c && list_all is_ascii_alphanumeric (d ∷ ds)) x ∙ digits

pub number_is_alphanumeric : (word : List ℕ) (n : ℕ) → number_of word ≡ Some n
    → list_all is_ascii_alphanumeric word ≡ true
number_is_alphanumeric [] n is = cc
number_is_alphanumeric (c ∷ cs) n is =
    elim (c == 48) as
    (λ b. (c == 48) ≡ b
    → (if b then behind_zero cs else written_from 10 9007199254740991 0 (c ∷ cs)) ≡ Some n
    → list_all is_ascii_alphanumeric (c ∷ cs) ≡ true) [
      | true ↦ λ zero is.
          let first : c ≡ 48 = grind (arith, nat_tests) in
          ap (λ c. is_ascii_alphanumeric c && list_all is_ascii_alphanumeric cs) first
          ∙ number_is_alphanumeric_behind cs n is
      | false ↦ λ zero is. digits_are_alphanumeric 10 0 (c ∷ cs) n (omega arith) is
    ] refl is
