-- Texts as bytes and as lists of characters.
use Rattle.std.proofs.Common.{◌≡◌, ◌∙◌, ap, sym, ℕ, zero, suc, List, [], ◌∷◌, ◌++◌, true}
use Rattle.std.proofs.Common.{append-nil, lit<, arith}
use Rattle.std.specs.Prelude.{encode_utf8, encode_utf8_all}
use Rattle.std.specs.Str.{chars, bytes_eq, IsUtf8, IsAscii, all_scalars}
use Rattle.std.proofs.lemmas.Str.{chars-append, chars-encodes, chars_from_encodes, encodes_same}
use Rattle.std.proofs.lemmas.Str.{IsUtf8-from_ascii, encodes-IsAscii}
use Rattle.std.proofs.lemmas.Slice.Eq.{bytes_eq-Decides}
use Rattle.std.proofs.lemmas.Bool.Decides.{Decides-like, same_from_decides, nat_tests}
use Rattle.gtm_base.specs.Ascii.{is_all_ascii}

-- one more character
pub chars-push : (bytes : List ℕ) (character : ℕ) → IsUtf8 bytes
    → all_scalars (character ∷ []) ≡ true
    → chars (bytes ++ encode_utf8 character) ≡ chars bytes ++ character ∷ []
chars-push bytes character utf8 scalar =
    chars-append bytes (encode_utf8 character) utf8
    ∙ ap (λ more. chars bytes ++ more) (rw append-nil at (chars-encodes (character ∷ []) scalar))

pub IsAscii-from_test : (bytes : List ℕ) → is_all_ascii bytes ≡ true → IsAscii bytes
IsAscii-from_test [] test zero = lit< tt
IsAscii-from_test [] test (suc at) = lit< tt
IsAscii-from_test (byte ∷ bytes) test zero = grind (arith, nat_tests)
IsAscii-from_test (byte ∷ bytes) test (suc at) =
    IsAscii-from_test bytes (grind (arith, nat_tests)) at

-- a text of ASCII alone is its own list of characters
pub chars-ascii : (bytes : List ℕ) → is_all_ascii bytes ≡ true → chars bytes ≡ bytes
chars-ascii bytes test =
    let ascii = IsAscii-from_test bytes test in
    sym (chars_from_encodes bytes bytes (IsUtf8-from_ascii bytes ascii)
    (encodes-IsAscii bytes ascii))

-- two texts are equal where their bytes are
pub bytes_eq-encoded : (some other : List ℕ)
    → bytes_eq (encode_utf8_all some) (encode_utf8_all other) ≡ bytes_eq some other
bytes_eq-encoded some other =
    same_from_decides _ _
    (Decides-like _ (encodes_same some other) (λ same. ap encode_utf8_all same)
    (bytes_eq-Decides (encode_utf8_all some) (encode_utf8_all other)))
    (bytes_eq-Decides some other)
