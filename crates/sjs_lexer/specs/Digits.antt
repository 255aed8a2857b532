-- Numbers that are written in digits.
use Rattle.std.specs.Prelude.{ℕ, ◌+◌, ◌*◌, ◌==◌, List, [], ◌∷◌, Option, Some, None, nat_lt, nat_le}
use Rattle.std.specs.Prelude.{if◌then◌else◌}
use Rattle.std.specs.Char.{digit_value}

-- what is done with a value, if there is one
abbrev pub then_with : {A B : Type 0} → Option A → (A → Option B) → Option B
then_with None f = None
then_with (Some x) f = f x

-- the number that one digit more gives, where it is a digit of that base and the number is not over
-- the limit
unfoldable pub push_digit : ℕ → ℕ → ℕ → ℕ → Option ℕ
push_digit base limit number digit =
    if nat_lt (digit_value digit) base then
    (if nat_le (number * base + digit_value digit) limit
    then Some (number * base + digit_value digit) else None)
    else None

-- the number that digits behind a number so far give
abbrev pub written_from : ℕ → ℕ → ℕ → List ℕ → Option ℕ
written_from base limit number [] = Some number
written_from base limit number (d ∷ ds) =
    then_with (push_digit base limit number d) (λ more. written_from base limit more ds)

-- the number that one or more digits give, where it is not over the limit
abbrev pub written : ℕ → ℕ → List ℕ → Option ℕ
written base limit [] = None
written base limit (d ∷ ds) = written_from base limit 0 (d ∷ ds)

-- the number behind a first `0`: that digit alone, or `x` and hexadecimal digits
abbrev pub behind_zero : List ℕ → Option ℕ
behind_zero [] = Some 0
behind_zero (c ∷ cs) = if c == 120 then written 16 9007199254740991 cs else None

-- the number that a whole text is: `0`, digits that begin with another one, or `0x` and hexadecimal
-- digits
abbrev pub number_of : List ℕ → Option ℕ
number_of [] = None
number_of (c ∷ cs) = if c == 48 then behind_zero cs else written 10 9007199254740991 (c ∷ cs)
