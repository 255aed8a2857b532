-- Digits that are read up to a bound, and the numbers that are reserved.
use Rattle.std.proofs.Common.{◌≡◌, ◌+◌, ◌-◌, ◌*◌, ℕ, min, List, [], ◌∷◌, ◌++◌, Option, Some, None}
use Rattle.std.proofs.Common.{Bool, true, false, ◌&&◌, not, nat_lt, if◌then◌else◌, codes, is_some}
use Rattle.std.proofs.Common.{arith, refl, ap, sym, ◌∙◌}
use Rattle.std.specs.Char.{is_ascii_digit}
use Rattle.std.specs.Prelude.{unwrap_or}
use Rattle.std.specs.List.{list_all}
use Rattle.std.specs.Option.{option_map_or}
use Rattle.std.specs.Str.{all_ascii_digits, bytes_eq}
use Rattle.std.proofs.lemmas.Slice.Eq.{bytes_eq-Decides}
use Rattle.std.proofs.lemmas.Bool.Decides.{nat_tests}
use Rattle.gtm_data.specs.WholeText.{read_on}
use Rattle.export_model.specs.declared.triggers.TriggerRef.TheVariants.{Own, AllPages, Init}
use Rattle.export_model.specs.declared.triggers.TriggerRef.TheVariants.{ConsentInit, Never}
use Rattle.export_names.specs.TriggerRefs.{built_in_trigger, is_never}
use Rattle.export_checks.specs.UnknownTriggers.{is_reserved}

-- the test of all digits
pub all_digits : (cs : List ℕ) → list_all is_ascii_digit cs ≡ all_ascii_digits cs
all_digits [] = refl
all_digits (c ∷ cs) = ap (λ rest. is_ascii_digit c && rest) (all_digits cs)

-- the number of digits with one more behind them
pub read_on-push : (number c : ℕ) (cs : List ℕ)
    → read_on number (cs ++ c ∷ []) ≡ 10 * read_on number cs + (c - 48)
read_on-push number c [] = refl
read_on-push number c (d ∷ cs) = read_on-push (10 * number + (d - 48)) c cs

-- a number that is kept up to a bound, with one more digit
pub capped_step : (kept number digit : ℕ) → kept ≡ min number 2147479000
    → min (10 * kept + digit) 2147479000 ≡ min (10 * number + digit) 2147479000
capped_step kept number digit is = omega arith

-- whether it lies below the bound is kept
below_alike : (number : ℕ)
    → not (nat_lt (min number 2147479000) 2147479000) ≡ not (nat_lt number 2147479000)
below_alike number = grind (arith, nat_tests)

by_digits : (all : Bool) (number : ℕ)
    → (all && not (nat_lt (min number 2147479000) 2147479000))
    ≡ option_map_or (λ n. not (nat_lt n 2147479000)) (if all then Some number else None) false
by_digits true number = below_alike number
by_digits false number = refl

-- digits are reserved where their number reaches the bound
pub reserved_alike : (cs : List ℕ)
    → (all_ascii_digits cs && not (nat_lt (min (read_on 0 cs) 2147479000) 2147479000))
    ≡ is_reserved cs
reserved_alike [] = refl
reserved_alike (c ∷ cs) = by_digits (all_ascii_digits (c ∷ cs)) (read_on 0 (c ∷ cs))

-- a word that is reserved, under another name
named_reserved : (word id : List ℕ) → bytes_eq id word ≡ true → is_reserved word ≡ true
    → not (is_reserved id) ≡ false
named_reserved word id same reserved =
    ap (λ text. not (is_reserved text)) ((bytes_eq-Decides id word).0 same) ∙ ap not reserved

by_words : (first second third free : Bool) → (first ≡ true → free ≡ false)
    → (second ≡ true → free ≡ false) → (third ≡ true → free ≡ false)
    → (is_never
    (unwrap_or
    (if first then Some AllPages
    else (if second then Some Init
    else (if third then Some ConsentInit else None))) Never) && free) ≡ free
by_words true second third free one two three = sym (one refl)
by_words false true third free one two three = sym (two refl)
by_words false false true free one two three = sym (three refl)
by_words false false false free one two three = refl

-- the built-in triggers that hold have reserved numbers
built_in_known : (id : List ℕ)
    → (is_never (built_in_trigger id) && not (is_reserved id)) ≡ not (is_reserved id)
built_in_known id =
    by_words (bytes_eq id (codes "2147479553")) (bytes_eq id (codes "2147479573"))
    (bytes_eq id (codes "2147479572")) (not (is_reserved id))
    (λ same. named_reserved (codes "2147479553") id same refl)
    (λ same. named_reserved (codes "2147479573") id same refl)
    (λ same. named_reserved (codes "2147479572") id same refl)

-- so a number is unknown where no trigger has it and it is not reserved
pub unknown_alike : (place : Option ℕ) (id : List ℕ)
    → (not (is_some place) && not (is_reserved id))
    ≡ (is_never (option_map_or Own place (built_in_trigger id)) && not (is_reserved id))
unknown_alike None id = sym (built_in_known id)
unknown_alike (Some at) id = refl
