-- How a pattern is set against a text from left to right.
use Rattle.std.specs.Prelude.{ℕ, ◌==◌, if◌then◌else◌, List, [], ◌∷◌, Bool, false}
use Rattle.perm_model.specs.Texts.{is_nothing}
use Rattle.perm_match.specs.Pieces.{joined}
use Rattle.perm_match.specs.declared.fitting.Step.{Step}
use Rattle.perm_match.specs.declared.fitting.Step.TheVariants.{Star, Done}

-- what the characters of a pattern before its first `*` come to
pub data Stepped : Type 0 where
  -- they stand at the front of the text: the pattern behind the `*`, and the text behind them
  star : List ℕ → List ℕ → Stepped
  -- they do not, or the pattern has no `*`: whether the pattern is the text
  done : Bool → Stepped

-- this character stands first, and then it goes on
abbrev pub step_first : ℕ → (List ℕ → Stepped) → List ℕ → Stepped
step_first c on [] = done false
step_first c on (d ∷ ds) = if c == d then on ds else done false

abbrev pub step : List ℕ → List ℕ → Stepped
step [] text = done (is_nothing text)
step (c ∷ cs) text = if c == 42 then star cs text else step_first c (step cs) text

abbrev pub stepped : Step → Stepped
stepped (Star pattern text) = star (joined pattern) (joined text)
stepped (Done is) = done is
