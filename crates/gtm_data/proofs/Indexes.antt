-- Numbers that are written in decimal digits, with no zero before them.
use Rattle.std.proofs.Common.{◌≡◌, ◌≢◌, ℕ, zero, suc, ◌<◌, ◌≤◌, ◌^◌, ◌+◌, List, [], ◌∷◌, length}
use Rattle.std.proofs.Common.{get_or, Option, Some, None, IfSome, IfNone, Bool, true, false}
use Rattle.std.proofs.Common.{if◌then◌else◌, refl, ap, sym, subst, ◌∙◌, arith}
use Rattle.std.specs.Result.{result_ok}
use Rattle.std.specs.Prelude.{Result, Ok, Err, decimal, encode_utf8_all, option_map, slice_get}
use Rattle.std.specs.Str.{chars, bytes_eq, IsUtf8}
use Rattle.std.specs.Str.Parse.{AllDigits, digits_value, ParsesUnsigned}
use Rattle.std.proofs.lemmas.Str.{chars-IsAscii, encodes-chars, encodes-IsAscii}
use Rattle.std.proofs.lemmas.Str.Parse.{IsNumeralModel, numerals_by_value, tells_digits, digit_at}
use Rattle.std.proofs.lemmas.Str.Parse.{parse_plain}
use Rattle.std.proofs.lemmas.Fmt.{IsAscii-decimal, decimal-digits_value, decimal_is_IsNumeral}
use Rattle.std.proofs.lemmas.Fmt.{parse-decimal, first_decimal, decimal_digit, decimal_injective}
use Rattle.std.proofs.lemmas.Slice.Eq.{bytes_eq-Decides}
use Rattle.gtm_data.specs.declared.data.Data.{Data}
use Rattle.gtm_data.specs.Tree.{Tree, tree_of, trees_of}
use Rattle.gtm_data.specs.Paths.{numbered}

own : IsNumeralModel (AllDigits 10) (digits_value 10)
own = numerals_by_value _ tells_digits

-- the bytes of a text that is the digits of a number
pub bytes_of : (bytes : List ℕ) (at : ℕ) → IsUtf8 bytes → at < 2 ^ 64 → decimal at ≡ chars bytes
    → bytes ≡ decimal at
bytes_of bytes at utf8 fits same =
    sym (encodes-chars bytes utf8) ∙ ap encode_utf8_all (sym same)
    ∙ encodes-IsAscii (decimal at) (IsAscii-decimal at fits)

pub chars_of : (bytes : List ℕ) (at : ℕ) → at < 2 ^ 64 → decimal at ≡ bytes
    → decimal at ≡ chars bytes
chars_of bytes at fits same =
    sym (chars-IsAscii (decimal at) (IsAscii-decimal at fits)) ∙ ap chars same

-- what `parse` read
pub parsed : {E : Type 0} (bytes : List ℕ) (at : ℕ) (read : Result ℕ E) → get_or bytes 0 0 ≢ 43
    → get_or bytes 0 0 ≢ 48 → ParsesUnsigned 64 10 bytes read → read ≡ Ok at
    → decimal at ≡ chars bytes
parsed bytes at (Err e) signed zeroes gives is = cc
parsed {E = E} bytes at (Ok got) signed zeroes gives is =
    let read = parse_plain own {E = E} 64 bytes (Ok got) gives signed in
    let written : decimal (digits_value 10 bytes) ≡ bytes =
    decimal-digits_value own bytes read.0.0 read.0.1 (λ e. absurd (zeroes e)) read.0.2 in
    let same : at ≡ digits_value 10 bytes = cc (read.1, is) in
    rw same (chars_of bytes (digits_value 10 bytes) read.0.2 written)

pub not_parsed : {E : Type 0} (bytes : List ℕ) (at : ℕ) (read : Result ℕ E) (e : E) → IsUtf8 bytes
    → ParsesUnsigned 64 10 bytes read → read ≡ Err e → at < 2 ^ 64 → decimal at ≡ chars bytes → ⊥
not_parsed bytes at read e utf8 gives is fits same =
    let got : read ≡ Ok at =
    parse-decimal 64 at bytes read fits fits (bytes_of bytes at utf8 fits same) gives in cc

-- no digits begin with a sign
pub not_signed : (bytes : List ℕ) (at : ℕ) → IsUtf8 bytes → get_or bytes 0 0 ≡ 43 → at < 2 ^ 64
    → decimal at ≡ chars bytes → ⊥
not_signed bytes at utf8 plus fits same =
    let digits = decimal_is_IsNumeral at fits in
    let first = digit_at (decimal at) 0 digits.0.1 digits.0.0 in
    let is : get_or (decimal at) 0 0 ≡ 43 =
    ap (λ bs. get_or bs 0 0) (sym (bytes_of bytes at utf8 fits same)) ∙ plus in
    omega (arith, first, is)

-- and only those of 0 with a zero
pub not_zero : (bytes : List ℕ) (at : ℕ) → IsUtf8 bytes → get_or bytes 0 0 ≡ 48
    → (bytes ≡ 48 ∷ [] → ⊥) → at < 2 ^ 64 → decimal at ≡ chars bytes → ⊥
not_zero bytes zero utf8 zeroes other fits same =
    other (bytes_of bytes zero utf8 fits same ∙ decimal_digit 0 (omega arith))
not_zero bytes (suc at) utf8 zeroes other fits same =
    let first : 48 < get_or (decimal (suc at)) 0 0 = first_decimal (suc at) (omega arith) fits in
    let is : get_or (decimal (suc at)) 0 0 ≡ 48 =
    ap (λ bs. get_or bs 0 0) (sym (bytes_of bytes (suc at) utf8 fits same)) ∙ zeroes in
    omega (arith, first, is)

here_at : (b : Bool) (x : Tree) (rest : Option Tree) → b ≡ true
    → (if b then Some x else rest) ≡ Some x
here_at true x rest e = refl
here_at false x rest e = cc

not_here_at : (b : Bool) (x : Tree) (rest : Option Tree) → b ≡ false
    → (if b then Some x else rest) ≡ rest
not_here_at true x rest e = cc
not_here_at false x rest e = refl

differs : (some other : List ℕ) → (some ≡ other → ⊥) → bytes_eq some other ≡ false
differs some other apart =
    elim (bytes_eq some other) as (λ b. bytes_eq some other ≡ b → b ≡ false)
    [ true ↦ λ e. absurd (apart ((bytes_eq-Decides some other).0 e)) | false ↦ λ e. refl ] refl

-- the item whose index is written so
pub numbered-found : (items : List Data) (start at : ℕ) (name : List ℕ) → at < length items
    → start + length items ≤ 2 ^ 64 → decimal (start + at) ≡ name
    → numbered start name (trees_of items) ≡ option_map tree_of (slice_get items at)
numbered-found [] start at name within fits written = absurd (omega arith)
numbered-found (x ∷ items) start zero name within fits written =
    here_at (bytes_eq (decimal start) name) (tree_of x) _
    ((bytes_eq-Decides (decimal start) name).1 (ap decimal (omega arith) ∙ written))
numbered-found (x ∷ items) start (suc at) name within fits written =
    let other : bytes_eq (decimal start) name ≡ false =
    differs (decimal start) name
    (λ e. let same : start ≡ start + suc at =
    decimal_injective start (start + suc at) (omega arith) (omega arith) (e ∙ sym written) in
    omega arith) in
    not_here_at (bytes_eq (decimal start) name) (tree_of x) _ other
    ∙ numbered-found items (start + 1) at name (omega arith) (omega arith)
    (ap decimal (omega arith) ∙ written)

pub numbered-none : (items : List Data) (start : ℕ) (name : List ℕ)
    → ((at : ℕ) → at < length items → decimal (start + at) ≡ name → ⊥)
    → numbered start name (trees_of items) ≡ None
numbered-none [] start name none = refl
numbered-none (x ∷ items) start name none =
    not_here_at (bytes_eq (decimal start) name) (tree_of x) _
    (differs (decimal start) name (λ e. none 0 (omega arith) (ap decimal (omega arith) ∙ e)))
    ∙ numbered-none items (start + 1) name
    (λ at within e. none (suc at) (omega arith) (ap decimal (omega arith) ∙ e))

pub some_of : {E : Type 0} {Q : ℕ → Type 0} (read : Result ℕ E) (found : Option ℕ)
    → found ≡ result_ok read → ((at : ℕ) → read ≡ Ok at → Q at) → IfSome found Q
some_of (Ok at) None is each = cc
some_of {Q = Q} (Ok at) (Some x) is each = let same : at ≡ x = cc in subst Q same (each at refl)
some_of (Err e) None is each = tt
some_of (Err e) (Some x) is each = cc

pub none_of : {E : Type 0} {N : Type 0} (read : Result ℕ E) (found : Option ℕ)
    → found ≡ result_ok read → ((e : E) → read ≡ Err e → N) → IfNone found N
none_of (Ok at) None is each = cc
none_of (Ok at) (Some x) is each = tt
none_of (Err e) None is each = each e refl
none_of (Err e) (Some x) is each = cc
