-- Places that a search has reached.
use Rattle.std.specs.Prelude.{◌≡◌, ◌<◌, ◌↔◌, ◌++◌, ℕ, List, Bool, IsTrue, false, length, count_by}
use Rattle.std.specs.Prelude.{slice_index_or, Contains}

-- the places reached are those with a mark, each once
pub record IsMarked (marks : List Bool) (places : List ℕ) : Type 0 where
  pub same : (place : ℕ) → IsTrue (slice_index_or marks place false) ↔ Contains places place
  pub count : count_by (λ mark. mark) marks ≡ length places

-- of the wanted places, those below the count are reached; nothing else is new, and what is new
-- stands behind the old
pub record Grows (count : ℕ) (wanted old new : List ℕ) : Type 0 where
  pub more : List ℕ
  pub behind : new ≡ old ++ more
  pub only : (place : ℕ) → Contains more place → Contains wanted place
  pub all : (place : ℕ) → place < count → Contains wanted place → Contains new place
