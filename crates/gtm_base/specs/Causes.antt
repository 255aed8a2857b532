-- When an answer says that the outside failed.
use Rattle.std.specs.Prelude.{◌≡◌, ◌+◌, ◌-◌, ◌^◌, ◌≤◌, ℕ, Bool, true, false, min, Result, Ok, Err}

-- a count with one more, or the greatest number that it can tell
abbrev pub one_more : ℕ → ℕ
one_more count = min (count + 1) (2 ^ 64 - 1)

-- a count went up, or it stands at the greatest number that it can tell
pub record Rose (before now : ℕ) : Type 0 where
  pub later : before ≤ now
  pub more : one_more before ≤ now

-- each error of a call says that the outside failed
abbrev pub every : {E : Type 0} → E → Bool
every error = true

-- whether a call answered by an error that says that the outside failed
abbrev pub has_failed : {T E : Type 0} → (E → Bool) → Result T E → Bool
has_failed is_fault (Ok value) = false
has_failed is_fault (Err error) = is_fault error

-- a count goes up where the outside failed, and else it stays
abbrev pub Counts : Bool → ℕ → ℕ → Type 0
Counts true before now = Rose before now
Counts false before now = now ≡ before
