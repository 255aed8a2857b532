-- Texts that need no escape within quotes.
use Rattle.std.proofs.Common.{◌≡◌, ℕ, ◌<◌, ◌≤◌, List, [], ◌∷◌, ◌++◌, Bool, true, false, refl, sym}
use Rattle.std.proofs.Common.{ap, ◌∙◌, arith}
use Rattle.std.proofs.lemmas.Bool.Decides.{nat_tests}
use Rattle.std.proofs.lemmas.List.Folds.{list_all-append}
use Rattle.std.proofs.lemmas.Str.{encode_ascii, encodes-chars}
use Rattle.std.specs.Prelude.{encode_utf8, encode_utf8_all, nat_lt}
use Rattle.std.specs.List.{flat_map, list_all}
use Rattle.std.specs.Str.{chars, IsUtf8}
use Rattle.gtm_data.specs.JsonText.{escaped, is_plain_byte}
use Rattle.gtm_data.proofs.Lists.{and_true}

escaped-plain : (c : ℕ) → is_plain_byte c ≡ true → escaped c ≡ c ∷ []
escaped-plain c plain = grind (arith, nat_tests)

plain-beyond : (c : ℕ) → 128 ≤ c → is_plain_byte c ≡ true
plain-beyond c beyond = grind (arith, nat_tests)

plain_at : (b : Bool) (c : ℕ) → nat_lt c 128 ≡ b → list_all is_plain_byte (encode_utf8 c) ≡ true
    → is_plain_byte c ≡ true
plain_at true c is all = let small : c < 128 = grind (arith, nat_tests) in
    (and_true _ _ (sym (ap (list_all is_plain_byte) (encode_ascii c small)) ∙ all)).0
plain_at false c is all = plain-beyond c (grind (arith, nat_tests))

each_plain : (cs : List ℕ) → list_all is_plain_byte (encode_utf8_all cs) ≡ true
    → flat_map escaped cs ≡ cs
each_plain [] all = refl
each_plain (c ∷ cs) all =
    let both =
    and_true _ _
    (sym (list_all-append is_plain_byte (encode_utf8 c) (encode_utf8_all cs)) ∙ all) in
    (λ i. escaped-plain c (plain_at (nat_lt c 128) c refl both.0) i ++ each_plain cs both.1 i)

-- a text in which each byte needs no escape is written as it is
pub flat_map-escaped : (bytes : List ℕ) → IsUtf8 bytes → list_all is_plain_byte bytes ≡ true
    → flat_map escaped (chars bytes) ≡ chars bytes
flat_map-escaped bytes utf8 all =
    each_plain (chars bytes) (ap (list_all is_plain_byte) (encodes-chars bytes utf8) ∙ all)
