-- The steps of a trace, with trees for values.
use Rattle.std.specs.Prelude.{ℕ, Bool}
use Rattle.gtm_data.specs.Facts.{Fact}
use Rattle.gtm_data.specs.Tree.{Tree}

-- one step
pub data Step : Type 0 where
  fact : Fact → Step
  -- a push to the data layer
  push : Tree → Step
  -- a list of arguments
  args : Tree → Step
  -- how the load of a number ended
  load : (number : ℕ) → (ok : Bool) → Step
  -- how the start of a number ended, of a tag of a vendor's
  vendor : (number : ℕ) → (ok : Bool) → Step

-- what a line says: nothing, a step, or the least rule that it breaks
pub data Reading : Type 0 where
  blank : Reading
  step : Step → Reading
  bad : ℕ → Reading
