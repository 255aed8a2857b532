-- Whole numbers as texts, beside what `parse` reads of them.
use Rattle.std.proofs.Common.{◌≡◌, ◌≢◌, ℕ, zero, suc, ◌<◌, ◌≤◌, List, [], ◌∷◌, length, get_or}
use Rattle.std.proofs.Common.{Option, Some, None, Bool, true, false, ◌&&◌, eqb, if◌then◌else◌, refl}
use Rattle.std.proofs.Common.{ap, sym, ◌∙◌, arith, rules, lit<}
use Rattle.std.specs.Prelude.{Result, Ok, Err, ℤ, pos, negsuc, neg_ℤ, int_lt, option_map}
use Rattle.std.specs.Prelude.{option_and_then}
use Rattle.std.specs.Int.{w64}
use Rattle.std.specs.Str.{chars, IsUtf8, IsAscii, all_ascii_digits}
use Rattle.std.specs.Str.Parse.{ParsesSigned}
use Rattle.std.proofs.lemmas.Bool.{eqb-true, eqb-false, ltb-true}
use Rattle.std.proofs.lemmas.Str.{chars-IsAscii, encodes-chars, encodes-IsAscii}
use Rattle.std.proofs.lemmas.Str.Parse.{IsNumeralModel, numerals_by_fold, digit_at}
use Rattle.std.proofs.lemmas.Str.Parse.{parse_signed_plain, parse_signed_minus}
use Rattle.gtm_data.specs.Plain.{in_range}
use Rattle.gtm_data.specs.WholeText.{read_on, digits_of, signed_of, whole_text}
use Rattle.gtm_data.proofs.Lists.{and_true}

own : IsNumeralModel (λ ds. all_ascii_digits ds ≡ true) (read_on 0)
own = numerals_by_fold _ (search rules) read_on (search rules)

taken : {A : Type 0} (b : Bool) (x y : A) → b ≡ true → (if b then x else y) ≡ x
taken true x y e = refl
taken false x y e = cc

not_taken : {A : Type 0} (b : Bool) (x y : A) → b ≡ false → (if b then x else y) ≡ y
not_taken true x y e = cc
not_taken false x y e = refl

digits_of-digits : (cs : List ℕ) → 0 < length cs → all_ascii_digits cs ≡ true
    → digits_of cs ≡ Some (read_on 0 cs)
digits_of-digits [] some all = absurd (omega arith)
digits_of-digits (c ∷ cs) some all = taken (all_ascii_digits (c ∷ cs)) _ _ all

read_at : {E : Type 0} (b : Bool) (c : ℕ) (cs : List ℕ) (z : ℤ) (read : Result ℤ E) → eqb c 45 ≡ b
    → (c ≡ 43 → ⊥) → ParsesSigned w64 10 (c ∷ cs) read → read ≡ Ok z → signed_of (c ∷ cs) ≡ Some z
read_at b c cs z (Err x) e plus gives is = cc
read_at {E = E} true c cs z (Ok y) e plus gives is =
    let read = parse_signed_minus own {E = E} w64 (c ∷ cs) (Ok y) gives (eqb-true c 45 e) in
    let same : neg_ℤ (pos (read_on 0 cs)) ≡ z = sym read.1 ∙ cc is in
    taken (eqb c 45) _ _ e
    ∙ ap (option_map (λ number. neg_ℤ (pos number))) (digits_of-digits cs read.0.1 read.0.0)
    ∙ ap Some same
read_at {E = E} false c cs z (Ok y) e plus gives is =
    let read = parse_signed_plain own {E = E} w64 (c ∷ cs) (Ok y) gives plus (eqb-false c 45 e) in
    let same : pos (read_on 0 (c ∷ cs)) ≡ z = sym read.1 ∙ cc is in
    not_taken (eqb c 45) _ _ e ∙ ap (option_map pos) (digits_of-digits (c ∷ cs) read.0.1 read.0.0)
    ∙ ap Some same

-- a text that is read as a number
pub read_is : {E : Type 0} (bytes : List ℕ) (z : ℤ) (read : Result ℤ E) → get_or bytes 0 0 ≢ 43
    → ParsesSigned w64 10 bytes read → read ≡ Ok z → signed_of bytes ≡ Some z
read_is [] z (Err x) plus gives is = cc
read_is {E = E} [] z (Ok y) plus gives is =
    let nothing : List ℕ = [] in
    let minus : get_or nothing 0 0 ≢ 45 = omega arith in
    let some : 0 < 0 = (parse_signed_plain own {E = E} w64 [] (Ok y) gives plus minus).0.1 in
    absurd (omega arith)
read_is (c ∷ cs) z read plus gives is = read_at (eqb c 45) c cs z read refl plus gives is

low : (n : ℕ)
    → (int_lt (negsuc 9007199254740991) (neg_ℤ (pos n))
    && int_lt (neg_ℤ (pos n)) (pos 9007199254740992)) ≡ true → n ≤ 9007199254740991
low zero e = omega arith
low (suc n) e = let h = (and_true _ _ e).0 in
    let k : n < 9007199254740991 = ltb-true n 9007199254740991 h in omega arith

high : (n : ℕ)
    → (int_lt (negsuc 9007199254740991) (pos n) && int_lt (pos n) (pos 9007199254740992)) ≡ true
    → n < 9007199254740992
high n e =
    ltb-true n 9007199254740992
    (and_true (int_lt (negsuc 9007199254740991) (pos n)) (int_lt (pos n) (pos 9007199254740992))
    e).1

no_number : {A : Type 0} (b : Bool) (x : A) → (b ≡ true → ⊥) → (if b then Some x else None) ≡ None
no_number true x not = absurd (not refl)
no_number false x not = refl

beyond : (sign : ℕ → ℤ) (cs : List ℕ)
    → (all_ascii_digits cs ≡ true → 0 < length cs → in_range (sign (read_on 0 cs)) ≡ None)
    → option_and_then in_range (option_map sign (digits_of cs)) ≡ None
beyond sign [] h = refl
beyond sign (c ∷ cs) h =
    elim (all_ascii_digits (c ∷ cs)) as
    (λ b. all_ascii_digits (c ∷ cs) ≡ b
    → option_and_then in_range (option_map sign (if b then Some (read_on 0 (c ∷ cs)) else None))
    ≡ None) [ true ↦ λ e. h e (omega arith) | false ↦ λ e. refl ] refl

unread_at : {E : Type 0} (b : Bool) (c : ℕ) (cs : List ℕ) (x : E) (read : Result ℤ E) → eqb c 45 ≡ b
    → (c ≡ 43 → ⊥) → ParsesSigned w64 10 (c ∷ cs) read → read ≡ Err x → whole_text (c ∷ cs) ≡ None
unread_at b c cs x (Ok y) e plus gives is = cc
unread_at {E = E} true c cs x (Err y) e plus gives is =
    let unread = parse_signed_minus own {E = E} w64 (c ∷ cs) (Err y) gives (eqb-true c 45 e) in
    ap (option_and_then in_range) (taken (eqb c 45) _ _ e)
    ∙ beyond (λ number. neg_ℤ (pos number)) cs
    (λ all some.
    no_number _ _
    (λ within. let small = low (read_on 0 cs) within in unread (all, some, omega arith)))
unread_at {E = E} false c cs x (Err y) e plus gives is =
    let unread =
    parse_signed_plain own {E = E} w64 (c ∷ cs) (Err y) gives plus (eqb-false c 45 e) in
    ap (option_and_then in_range) (not_taken (eqb c 45) _ _ e)
    ∙ beyond pos (c ∷ cs)
    (λ all some.
    no_number _ _
    (λ within. let small = high (read_on 0 (c ∷ cs)) within in unread (all, some, omega arith)))

-- a text that is not read as a number of 64 bits
pub unread_is : {E : Type 0} (bytes : List ℕ) (x : E) (read : Result ℤ E) → get_or bytes 0 0 ≢ 43
    → ParsesSigned w64 10 bytes read → read ≡ Err x → whole_text bytes ≡ None
unread_is [] x read plus gives is = refl
unread_is (c ∷ cs) x read plus gives is = unread_at (eqb c 45) c cs x read refl plus gives is

pub plus_is : (bytes : List ℕ) → get_or bytes 0 0 ≡ 43 → whole_text bytes ≡ None
plus_is [] plus = refl
plus_is (c ∷ cs) plus = let same : c ≡ 43 = plus in rw same refl

digits_all : (cs : List ℕ) (n : ℕ) → digits_of cs ≡ Some n → all_ascii_digits cs ≡ true
digits_all [] n is = cc
digits_all (c ∷ cs) n is =
    elim (all_ascii_digits (c ∷ cs)) as
    (λ b. (if b then Some (read_on 0 (c ∷ cs)) else None) ≡ Some n → b ≡ true)
    [ true ↦ λ e. refl | false ↦ λ e. cc ] is

digits_ascii : (cs : List ℕ) → all_ascii_digits cs ≡ true → IsAscii cs
digits_ascii [] all at = lit< tt
digits_ascii (c ∷ cs) all zero = let h = digit_at (c ∷ cs) 0 (own.to (c ∷ cs) all) (omega arith) in
    omega (arith, h)
digits_ascii (c ∷ cs) all (suc at) = digits_ascii cs (and_true _ _ all).1 at

mapped : {A B : Type 0} (f : A → B) (found : Option A) (y : B) → option_map f found ≡ Some y
    → (x : A) × (found ≡ Some x)
mapped f None y e = cc
mapped f (Some x) y e = (x, refl)

ascii_at : (b : Bool) (c : ℕ) (cs : List ℕ) (z : ℤ) → eqb c 45 ≡ b → signed_of (c ∷ cs) ≡ Some z
    → IsAscii (c ∷ cs)
ascii_at true c cs z e is zero = let minus : c ≡ 45 = eqb-true c 45 e in omega arith
ascii_at true c cs z e is (suc at) =
    let some =
    mapped (λ number. neg_ℤ (pos number)) (digits_of cs) z (sym (taken (eqb c 45) _ _ e) ∙ is)
    in
    digits_ascii cs (digits_all cs some.0 some.1) at
ascii_at false c cs z e is at =
    let some = mapped pos (digits_of (c ∷ cs)) z (sym (not_taken (eqb c 45) _ _ e) ∙ is) in
    digits_ascii (c ∷ cs) (digits_all (c ∷ cs) some.0 some.1) at

ascii_of : (cs : List ℕ) (z : ℤ) → signed_of cs ≡ Some z → IsAscii cs
ascii_of [] z is = cc
ascii_of (c ∷ cs) z is = ascii_at (eqb c 45) c cs z refl is

by_either : (bytes : List ℕ) (some other : Option ℤ) → IsUtf8 bytes → signed_of (chars bytes) ≡ some
    → signed_of bytes ≡ other → signed_of (chars bytes) ≡ signed_of bytes
by_either bytes (Some z) other utf8 e f =
    let ascii = ascii_of (chars bytes) z e in
    ap signed_of (sym (encodes-IsAscii (chars bytes) ascii) ∙ encodes-chars bytes utf8)
by_either bytes None (Some z) utf8 e f = ap signed_of (chars-IsAscii bytes (ascii_of bytes z f))
by_either bytes None None utf8 e f = e ∙ sym f

-- such a text has the same characters as bytes
pub by_bytes : (bytes : List ℕ) → IsUtf8 bytes → whole_text (chars bytes) ≡ whole_text bytes
by_bytes bytes utf8 =
    ap (option_and_then in_range)
    (by_either bytes (signed_of (chars bytes)) (signed_of bytes) utf8 refl refl)
