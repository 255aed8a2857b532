-- When a condition holds of the texts of its two sides.
use Rattle.std.specs.Prelude.{ℕ, ℤ, List, Bool, true, false, not, ◌&&◌, int_lt, int_le}
use Rattle.std.specs.Option.{option_map_or}
use Rattle.std.specs.Str.{bytes_eq}
use Rattle.export_model.specs.declared.conditions.Condition.{Condition}
use Rattle.export_model.specs.declared.conditions.Op.{Op}
use Rattle.export_model.specs.declared.conditions.Op.TheVariants as op
use Rattle.gtm_data.specs.WholeText.{whole_text}
use Rattle.gtm_variables.specs.Asked.{pattern_by}
use Rattle.gtm_triggers.specs.Texts.{starts, ends, has}
use Rattle.variable_kinds.specs.Ends.{finds}

-- both texts are whole numbers, and the test holds of them
abbrev pub whole_both : (ℤ → ℤ → Bool) → List ℕ → List ℕ → Bool
whole_both test left right =
    option_map_or (λ x. option_map_or (λ y. test x y) (whole_text right) false)
    (whole_text left) false

-- a comparison holds of two texts; the pattern is what the right one is as such
abbrev pub compares : Op → List ℕ → List ℕ → List ℕ → Bool
compares op.Equals left right pattern = bytes_eq left right
compares op.Contains left right pattern = has left right
compares op.StartsWith left right pattern = starts left right
compares op.EndsWith left right pattern = ends left right
compares op.Greater left right pattern = whole_both int_lt right left
compares op.GreaterOrEquals left right pattern = whole_both int_le right left
compares op.Less left right pattern = whole_both int_lt left right
compares op.LessOrEquals left right pattern = whole_both int_le left right
compares op.MatchRegex left right pattern = finds pattern left
compares (op.Never word) left right pattern = false

-- a comparison that never holds, also where it is negated
abbrev pub is_never : Op → Bool
is_never (op.Never word) = true
is_never _ = false

-- two answers differ
abbrev pub differ : Bool → Bool → Bool
differ true other = not other
differ false other = other

-- a condition holds of the texts of its two sides
abbrev pub decided : Condition → List ℕ → List ℕ → Bool
decided condition left right =
    not (is_never condition.op)
    && differ (compares condition.op left right (pattern_by condition.ignore_case right))
    condition.negate
