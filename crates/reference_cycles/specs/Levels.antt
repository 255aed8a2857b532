-- Levels of places. A place behind the last level has level 0.
use Rattle.std.specs.Prelude.{◌<◌, ◌≤◌, ℕ, List, slice_index}
use Rattle.reference_cycles.specs.Graph.{Refers}

-- the place refers to none of a higher level
abbrev pub RefersNoHigher : List (List ℕ) → List ℕ → ℕ → Type 0
RefersNoHigher graph levels place =
    (to : ℕ) → Refers graph place to → slice_index levels to ≤ slice_index levels place

-- the place refers to those of a lower level alone
abbrev pub RefersLower : List (List ℕ) → List ℕ → ℕ → Type 0
RefersLower graph levels place =
    (to : ℕ) → Refers graph place to → slice_index levels to < slice_index levels place

-- a place refers to one of no lower level, and none before it does
pub record IsFirstFlat (graph : List (List ℕ)) (levels : List ℕ) (place : ℕ) : Type 0 where
  pub flat : RefersLower graph levels place → ⊥
  pub first : (other : ℕ) → other < place → RefersLower graph levels other
