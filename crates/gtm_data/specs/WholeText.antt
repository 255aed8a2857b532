-- Whole numbers as texts.
use Rattle.std.specs.Prelude.{ℕ, ◌+◌, ◌-◌, ◌*◌, ℤ, pos, neg_ℤ, List, [], ◌∷◌, Option, Some, None}
use Rattle.std.specs.Prelude.{option_map, option_and_then, ◌==◌, if◌then◌else◌}
use Rattle.std.specs.Str.{all_ascii_digits}
use Rattle.gtm_data.specs.Plain.{in_range}

-- the number that digits write when they follow those of another
abbrev pub read_on : ℕ → List ℕ → ℕ
read_on number [] = number
read_on number (c ∷ cs) = read_on (10 * number + (c - 48)) cs

-- the number that one or more ASCII digits write
abbrev pub digits_of : List ℕ → Option ℕ
digits_of [] = None
digits_of (c ∷ cs) = if all_ascii_digits (c ∷ cs) then Some (read_on 0 (c ∷ cs)) else None

-- the same with an optional `-` before them
abbrev pub signed_of : List ℕ → Option ℤ
signed_of [] = None
signed_of (c ∷ cs) =
    if c == 45 then option_map (λ number. neg_ℤ (pos number)) (digits_of cs)
    else option_map pos (digits_of (c ∷ cs))

-- the whole number that a text is, where it lies from -9007199254740991 to 9007199254740991
abbrev pub whole_text : List ℕ → Option ℤ
whole_text characters = option_and_then in_range (signed_of characters)
