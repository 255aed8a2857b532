-- The first digit of a number that is written in decimal digits.
use Rattle.std.proofs.Common.{◌≡◌, ℕ, zero, suc, ◌<◌, ◌≤◌, ◌^◌, List, [], ◌∷◌, length, get_or}
use Rattle.std.proofs.Common.{false, true≢false, sym, ◌∙◌, arith}
use Rattle.std.specs.Prelude.{decimal}
use Rattle.std.specs.Str.{chars, bytes_eq, IsUtf8}
use Rattle.std.proofs.lemmas.Str.Parse.{digit_at}
use Rattle.std.proofs.lemmas.Slice.Eq.{bytes_eq-Decides}
use Rattle.std.proofs.lemmas.Fmt.{decimal_is_IsNumeral, first_decimal, decimal_digit}
use Rattle.gtm_data.proofs.Indexes.{bytes_of}

-- any but 0 begins with a digit from 1 on
pub record Begins (bytes : List ℕ) : Type 0 where
  pub some : 0 < length bytes
  pub low : 48 < get_or bytes 0 0
  pub high : get_or bytes 0 0 ≤ 57

begins : (at : ℕ) → 0 < at → at < 2 ^ 64 → Begins (decimal at)
begins at positive fits =
    let digits = decimal_is_IsNumeral at fits in
    let first = digit_at (decimal at) 0 digits.0.1 digits.0.0 in
    record {
      some =
          omega (arith, digits.0.0);
      low =
          first_decimal at positive fits;
      high = omega (arith, first);
    }

pub first_digit : (bytes : List ℕ) (at : ℕ) → IsUtf8 bytes → (bytes ≡ 48 ∷ [] → ⊥) → at < 2 ^ 64
    → decimal at ≡ chars bytes → Begins bytes
first_digit bytes zero utf8 other fits same =
    absurd (other (bytes_of bytes zero utf8 fits same ∙ decimal_digit 0 (omega arith)))
first_digit bytes (suc at) utf8 other fits same =
    let is : bytes ≡ decimal (suc at) = bytes_of bytes (suc at) utf8 fits same in
    let all = begins (suc at) (omega arith) fits in
    record { some = rw is all.some; low = rw is all.low; high = rw is all.high }

pub not_the_word : (byte : ℕ) (bytes : List ℕ) → bytes_eq bytes (byte ∷ []) ≡ false
    → bytes ≡ byte ∷ [] → ⊥
not_the_word byte bytes other same =
    true≢false (sym ((bytes_eq-Decides bytes (byte ∷ [])).1 same) ∙ other)
