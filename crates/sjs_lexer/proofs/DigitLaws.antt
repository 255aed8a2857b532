-- What digits write is their value.
use Rattle.std.proofs.Common.{◌≡◌, ℕ, ◌+◌, ◌*◌, ◌≤◌, ◌<◌, List, [], ◌∷◌, ◌≢◌, true, Some, None}
use Rattle.std.proofs.Common.{refl, sym, ap, ◌∙◌, arith, nat_lt, nat_le}
use Rattle.std.specs.Prelude.{if◌then◌else◌}
use Rattle.std.specs.Char.{digit_value}
use Rattle.std.specs.Str.Parse.{digits_value, digits_value_after, AllDigits}
use Rattle.std.proofs.Math.Nat.{mul-le-mul_left}
use Rattle.std.proofs.lemmas.Bool.Decides.{nat_tests}
use Rattle.sjs_lexer.specs.Digits.{then_with, push_digit, written_from, written}
use Rattle.sjs_lexer.proofs.Options.{then_some, if_some}

pub record IsPushed (base limit number digit more : ℕ) : Type 0 where
  pub below : digit_value digit < base
  pub is : more ≡ number * base + digit_value digit
  pub within : more ≤ limit

pushed : (base limit number digit more : ℕ) → push_digit base limit number digit ≡ Some more
    → IsPushed base limit number digit more
unfolding push_digit
pushed base limit number digit more h =
    let value = number * base + digit_value digit in
    let first =
    if_some (nat_lt (digit_value digit) base) (if nat_le value limit then Some value else None)
    more h in
    let second = if_some (nat_le value limit) (Some value) more first.1 in
    let same : value ≡ more = let e : Some value ≡ Some more = second.1 in cc in
    record { below = grind (arith, nat_tests); is = sym same; within = grind (arith, nat_tests) }

pushes : (base limit number digit : ℕ) → digit_value digit < base
    → number * base + digit_value digit ≤ limit
    → push_digit base limit number digit ≡ Some (number * base + digit_value digit)
unfolding push_digit
pushes base limit number digit below within =
    let one : nat_lt (digit_value digit) base ≡ true = grind (arith, nat_tests) in
    let two : nat_le (number * base + digit_value digit) limit ≡ true = grind (arith, nat_tests) in
    rw (one, two)

written_value : (base limit number : ℕ) (ds : List ℕ) (n : ℕ) → number ≤ limit
    → written_from base limit number ds ≡ Some n
    → AllDigits base ds × (n ≡ digits_value_after base number ds) × (n ≤ limit)
written_value base limit number [] n small h =
    let same : number ≡ n = let e : Some number ≡ Some n = h in cc in
    (tt, sym same, omega (arith, same))
written_value base limit number (d ∷ ds) n small h =
    let first =
    then_some (push_digit base limit number d) (λ more. written_from base limit more ds) n h in
    let one = pushed base limit number d first.0 first.1 in
    let rest = written_value base limit first.0 ds n one.within first.2 in
    ((one.below, rest.0), rest.1 ∙ ap (λ m. digits_value_after base m ds) one.is, rest.2)

after_ge : (base number : ℕ) (ds : List ℕ) → 1 ≤ base → number ≤ digits_value_after base number ds
after_ge base number [] some = omega arith
after_ge base number (d ∷ ds) some =
    let rest : number * base + digit_value d
    ≤ digits_value_after base (number * base + digit_value d) ds =
    after_ge base (number * base + digit_value d) ds some in
    omega (arith, rest, mul-le-mul_left number some)

value_written : (base limit number : ℕ) (ds : List ℕ) → 1 ≤ base → AllDigits base ds
    → digits_value_after base number ds ≤ limit
    → written_from base limit number ds ≡ Some (digits_value_after base number ds)
value_written base limit number [] some all within = refl
value_written base limit number (d ∷ ds) some all within =
    let more = number * base + digit_value d in
    let rest : more ≤ digits_value_after base more ds = after_ge base more ds some in
    let small : more ≤ limit = omega (arith, rest, within) in
    ap (λ o. then_with o (λ m. written_from base limit m ds))
    (pushes base limit number d all.0 small)
    ∙ value_written base limit more ds some all.1 within

pub to_value : (base limit n : ℕ) (ds : List ℕ) → written base limit ds ≡ Some n
    → (ds ≢ []) × AllDigits base ds × (digits_value base ds ≡ n) × (n ≤ limit)
to_value base limit n [] h = cc
to_value base limit n (d ∷ ds) h =
    let is = written_value base limit 0 (d ∷ ds) n (omega arith) h in
    ((λ none. cc), is.0, sym is.1, is.2)

pub from_value : (base limit n : ℕ) (ds : List ℕ) → 1 ≤ base
    → (ds ≢ []) × AllDigits base ds × (digits_value base ds ≡ n) × (n ≤ limit)
    → written base limit ds ≡ Some n
from_value base limit n [] some (more, all, is, within) = absurd (more refl)
from_value base limit n (d ∷ ds) some (more, all, is, within) =
    let small : digits_value_after base 0 (d ∷ ds) ≤ limit = omega (arith, is, within) in
    value_written base limit 0 (d ∷ ds) some all small
    ∙ ap (λ m. then_with (Some m) (λ x. Some x)) is
