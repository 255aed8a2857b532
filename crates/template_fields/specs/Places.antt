-- The values of members at their places.
use Rattle.std.specs.Prelude.{ℕ, List, Option, Some, None, option_map, slice_get}
use Rattle.gtm_data.specs.Tree.{Tree}

abbrev pub value_found : List (List ℕ × Tree) → Option ℕ → Option Tree
value_found members None = None
value_found members (Some at) = option_map (λ m. m.1) (slice_get members at)
