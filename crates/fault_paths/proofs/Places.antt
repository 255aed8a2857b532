-- The digits of a place lead to the item there.
use Rattle.std.proofs.Common.{◌≡◌, ℕ, zero, suc, ◌+◌, ◌^◌, ◌<◌, List, [], ◌∷◌, ◌++◌, length, map}
use Rattle.std.proofs.Common.{get_or, Bool, true, false, Some}
use Rattle.std.proofs.Common.{decimal, refl, sym, ap, ◌∙◌, arith, append-nil, eqb, lt-ltb, ne_eqb}
use Rattle.std.proofs.Common.{subst}
use Rattle.std.specs.Prelude.{◌==◌, ◌||◌, not, slice_index}
use Rattle.std.proofs.lemmas.Fmt.{decimal_is_IsNumeral, decimal_nonempty, decimal-digits_of}
use Rattle.std.specs.Fmt.{digits}
use Rattle.std.specs.Str.{NonePass}
use Rattle.std.specs.Int.Digits.{digits_of}
use Rattle.std.proofs.lemmas.Int.Digits.{first_digits_of}
use Rattle.std.proofs.lemmas.Bool.Decides.{nat_tests}
use Rattle.fast_float.specs.Text.{Parts, scan, IsWellFormed}
use Rattle.fast_float.proofs.Writing.{scan-text_of}
use Rattle.serde_json.specs.Find.{index_of}

abbrev parts_of : List ℕ → Parts
parts_of digits = record {
  whole = digits;
  point = false;
  fraction = [];
  exponent_negative = false;
  exponent = [];
  len = length (digits ++ []);
}

scanned : (n : ℕ) → n < 2 ^ 64 → scan (decimal n) ≡ parts_of (decimal n)
scanned n small =
    let numeral = decimal_is_IsNumeral n small in
    let formed : IsWellFormed (parts_of (decimal n)) = record {
      whole_digits = numeral.0.1;
      fraction_digits = tt;
      exponent_digits = tt;
      no_point = λ _. refl;
      no_exponent = λ _. refl;
      len_is = refl;
    } in
    ap scan (sym (append-nil (decimal n))) ∙ scan-text_of (parts_of (decimal n)) formed

head_differs : (digits : List ℕ) → 0 < get_or digits 0 0
    → get_or (map (λ d. 48 + d) digits) 0 0 ≡ 48 → ⊥
head_differs [] some is = omega arith
head_differs (d ∷ digits) some is = omega arith

first_differs : (n : ℕ) → 0 < n → n < 2 ^ 64 → get_or (decimal n) 0 0 ≡ 48 → ⊥
first_differs n some small is =
    head_differs (digits_of 10 n) (first_digits_of 10 n (omega arith) some)
    (ap (λ ds. get_or ds 0 0) (sym (decimal-digits_of n some small)) ∙ is)

or_true : (b : Bool) → (b || true) ≡ true
or_true true = refl
or_true false = refl

-- no 0 stands before another digit
begins : (n : ℕ) → n < 2 ^ 64
    → ((length (decimal n) == 1) || not (slice_index (decimal n) 0 == 48)) ≡ true
unfolding digits
begins zero small = refl
begins (suc n) small =
    rw (ne_eqb (get_or (decimal (suc n)) 0 0) 48 (first_differs (suc n) (omega arith) small))
    (or_true (length (decimal (suc n)) == 1))

pub index_of-decimal : (n : ℕ) → n < 2 ^ 64 → index_of (decimal n) ≡ Some n
unfolding index_of
index_of-decimal n small =
    let numeral = decimal_is_IsNumeral n small in
    rw (scanned n small)
    (rw (
      append-nil,
      numeral.1,
      begins n small,
      lt-ltb _ _ (decimal_nonempty n small),
      lt-ltb _ _ small,
    ) (grind (arith, nat_tests)))

above_slash : (digits : List ℕ) → NonePass (λ c. eqb c 47) (map (λ d. 48 + d) digits)
above_slash [] = tt
above_slash (d ∷ digits) = (ne_eqb (48 + d) 47 (λ is. omega arith), above_slash digits)

-- no digit is a slash
pub plain_digits : (n : ℕ) → n < 2 ^ 64 → NonePass (λ c. eqb c 47) (decimal n)
unfolding digits
plain_digits zero small = (refl, tt)
plain_digits (suc n) small =
    subst (NonePass (λ c. eqb c 47)) (sym (decimal-digits_of (suc n) (omega arith) small))
    (above_slash (digits_of 10 (suc n)))
