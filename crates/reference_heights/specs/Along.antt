-- Recursion along the references of a graph, and how high its places stand.
use Rattle.std.specs.Prelude.{◌≡◌, ℕ, zero, suc, max, List, [], ◌∷◌, length, slice_get}
use Rattle.std.specs.Option.{option_map_or}
use Rattle.reference_cycles.specs.Graph.{Refers}

-- what a place has, by a step from what those places have that it refers to, so many references
-- deep; beyond these each place has a given value
abbrev pub along : {A : Type 0} → ((ℕ → A) → ℕ → A) → A → ℕ → ℕ → A
along step beyond zero at = beyond
along step beyond (suc depth) at = step (along step beyond depth) at

-- a step reads what those places have that the place refers to, and nothing else
pub record ReadsReferences {A : Type 0} (graph : List (List ℕ)) (step : (ℕ → A) → ℕ → A)
    : Type 0 where
  pub same : (some other : ℕ → A) (at : ℕ) → ((to : ℕ) → Refers graph at to → some to ≡ other to)
      → step some at ≡ step other at

-- the greatest of what these places have
abbrev pub greatest : (ℕ → ℕ) → List ℕ → ℕ
greatest heights [] = 0
greatest heights (place ∷ places) = max (heights place) (greatest heights places)

-- one more than the greatest height of the places that it refers to
abbrev pub higher : List (List ℕ) → (ℕ → ℕ) → ℕ → ℕ
higher graph heights at = suc (option_map_or (greatest heights) (slice_get graph at) 0)

-- how many references in a row lead on from a place, at most, and one more
abbrev pub height : List (List ℕ) → ℕ → ℕ
height graph at = along (higher graph) 0 (suc (length graph)) at
