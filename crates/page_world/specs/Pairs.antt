-- Pairs of a key and a value, with another value at a key.
use Rattle.std.specs.Prelude.{ℕ, List, [], ◌∷◌, ◌++◌, Option, Some, None}
use Rattle.gtm_base.specs.Keys.{place_of, with_value}

-- the pairs with this value at a place, or with a new pair behind the last
abbrev pub placed : {A : Type 0} → Option ℕ → List ℕ → A → List (List ℕ × A) → List (List ℕ × A)
placed (Some at) key value pairs = with_value pairs at value
placed None key value pairs = pairs ++ (key, value) ∷ []

-- the pairs with this value at the key: in place of the old one, or else last
abbrev pub with_key : {A : Type 0} → List ℕ → A → List (List ℕ × A) → List (List ℕ × A)
with_key key value pairs = placed (place_of key pairs) key value pairs
