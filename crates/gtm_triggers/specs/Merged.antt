-- Two ascending lists as one.
use Rattle.std.specs.Prelude.{ℕ, List, [], ◌∷◌, ◌++◌, nat_lt, if◌then◌else◌}

-- what stands before the first number that is not less
abbrev pub less_than : ℕ → List ℕ → List ℕ
less_than bound [] = []
less_than bound (x ∷ xs) = if nat_lt x bound then x ∷ less_than bound xs else []

-- that number, and what stands behind it
abbrev pub from_on : ℕ → List ℕ → List ℕ
from_on bound [] = []
from_on bound (x ∷ xs) = if nat_lt x bound then from_on bound xs else x ∷ xs

-- the numbers of both, each of the second behind those of the first that are less
abbrev pub merged : List ℕ → List ℕ → List ℕ
merged xs [] = xs
merged xs (y ∷ ys) = less_than y xs ++ y ∷ merged (from_on y xs) ys
