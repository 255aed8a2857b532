-- Engines some of whose calls are to be refused, as contracts see them.
use Rattle.std.specs.Prelude.{◌≡◌, ℕ, List}
use Rattle.gtm_base.specs.Causes.{one_more}
use Rattle.gtm_base.specs.Engines.{EnginesState}

-- what the engines tell, the calls that are to be refused, and how many calls there were
pub record Planned : Type 0 where
  pub engines : EnginesState
  pub refusing : List ℕ
  pub calls : ℕ

-- a call was counted, and those that are to be refused stayed
pub record CountsCall (old new : Planned) : Type 0 where
  pub calls : new.calls ≡ one_more old.calls
  pub refusing : new.refusing ≡ old.refusing
