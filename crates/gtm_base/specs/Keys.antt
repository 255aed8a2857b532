-- Pairs of a key and a value.
use Rattle.std.specs.Prelude.{ℕ, zero, suc, List, [], ◌∷◌, Bool, true, false, not, ◌&&◌, ◌||◌}
use Rattle.std.specs.Prelude.{Option, Some, None, option_map, if◌then◌else◌}
use Rattle.std.specs.Str.{bytes_eq}

-- whether some pair has the key
abbrev pub has_key : {A : Type 0} → List ℕ → List (List ℕ × A) → Bool
has_key key [] = false
has_key key (pair ∷ pairs) = bytes_eq pair.0 key || has_key key pairs

-- whether no two pairs have the same key
abbrev pub distinct_keys : {A : Type 0} → List (List ℕ × A) → Bool
distinct_keys [] = true
distinct_keys (pair ∷ pairs) = not (has_key pair.0 pairs) && distinct_keys pairs

-- the value of the first pair with the key
abbrev pub value_of : {A : Type 0} → List ℕ → List (List ℕ × A) → Option A
value_of key [] = None
value_of key (pair ∷ pairs) = if bytes_eq pair.0 key then Some pair.1 else value_of key pairs

-- the place of the first pair with the key
abbrev pub place_of : {A : Type 0} → List ℕ → List (List ℕ × A) → Option ℕ
place_of key [] = None
place_of key (pair ∷ pairs) =
    if bytes_eq pair.0 key then Some 0 else option_map suc (place_of key pairs)

-- the pairs with another value at a place
abbrev pub with_value : {A : Type 0} → List (List ℕ × A) → ℕ → A → List (List ℕ × A)
with_value [] at value = []
with_value (pair ∷ pairs) zero value = (pair.0, value) ∷ pairs
with_value (pair ∷ pairs) (suc at) value = pair ∷ with_value pairs at value

-- the value at a place, or another one behind the last
abbrev pub value_at : {A : Type 0} → List (List ℕ × A) → ℕ → A → A
value_at [] at other = other
value_at (pair ∷ pairs) zero other = pair.1
value_at (pair ∷ pairs) (suc at) other = value_at pairs at other
