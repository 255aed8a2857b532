-- Which places lead to which, by the closure of a graph.
use Rattle.std.specs.Prelude.{ℕ, zero, suc, List, [], ◌∷◌, ◌++◌, length, Bool, false, ◌&&◌, ◌||◌}
use Rattle.std.specs.Prelude.{Option, find, nat_eq, slice_get}
use Rattle.std.specs.List.{list_any}
use Rattle.std.specs.Option.{option_map_or}

-- a place refers to another one
abbrev pub refers : List (List ℕ) → ℕ → ℕ → Bool
refers graph from to = option_map_or (list_any (nat_eq to)) (slice_get graph from) false

-- one reference or more lead from one place to another, with places below a bound alone between
-- them: not through the last of these, or to it and on from it
abbrev pub leads_through : List (List ℕ) → ℕ → ℕ → ℕ → Bool
leads_through graph zero from to = refers graph from to
leads_through graph (suc last) from to =
    leads_through graph last from to
    || (leads_through graph last from last && leads_through graph last last to)

-- a place leads back to itself
abbrev pub is_on_cycle : List (List ℕ) → ℕ → Bool
is_on_cycle graph place = leads_through graph (length graph) place place

-- the places below a bound, in order
abbrev pub below : ℕ → List ℕ
below zero = []
below (suc last) = below last ++ last ∷ []

-- the first place that leads back to itself, or none
abbrev pub first_cycle : List (List ℕ) → Option ℕ
first_cycle graph = find (is_on_cycle graph) (below (length graph))
