-- Places that refer to places. A graph has for each place, counted from 0, those that it refers to;
-- what is behind its last place refers to nothing.
use Rattle.std.specs.Prelude.{◌≡◌, ◌<◌, ℕ, zero, suc, List, Contains, IsSomeAnd, slice_get}

-- a place refers to another one
abbrev pub Refers : List (List ℕ) → ℕ → ℕ → Type 0
Refers graph from to = IsSomeAnd (slice_get graph from) (λ places. Contains places to)

-- so many references in a row lead from one place to another
abbrev pub Chain : List (List ℕ) → ℕ → ℕ → ℕ → Type 0
Chain graph zero from to = from ≡ to
Chain graph (suc steps) from to = (next : ℕ) × Refers graph from next × Chain graph steps next to

-- one reference or more lead from one place to another
abbrev pub Leads : List (List ℕ) → ℕ → ℕ → Type 0
Leads graph from to = (steps : ℕ) × Chain graph (suc steps) from to

-- no place leads back to itself
abbrev pub HasNoCycle : List (List ℕ) → Type 0
HasNoCycle graph = (place : ℕ) → Leads graph place place → ⊥

-- a place leads back to itself, and none before it does
pub record IsFirstOnCycle (graph : List (List ℕ)) (place : ℕ) : Type 0 where
  pub leads : Leads graph place place
  pub first : (other : ℕ) → other < place → Leads graph other other → ⊥
