-- Marks for places.
use Rattle.std.specs.Prelude.{◌≡◌, ℕ, List, Bool, false, nat_eq, slice_index_or}
use Rattle.std.specs.List.{list_any}

-- exactly these places have a mark
abbrev pub AreMarks : List Bool → List ℕ → Type 0
AreMarks marks places =
    (at : ℕ) → slice_index_or marks at false ≡ list_any (nat_eq at) places
