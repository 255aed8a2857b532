-- Another value at a path of a page's globals. The path walks Maps alone.
use Rattle.std.specs.Prelude.{ℕ, nat_lt, List, [], ◌∷◌, length, Bool, true, false, ◌||◌}
use Rattle.std.specs.Option.{option_map_or}
use Rattle.gtm_data.specs.Paths.{member}
use Rattle.gtm_data.specs.Tree.{Tree, object, Entries, none}
use Rattle.gtm_data.specs.declared.limits.TheConstants.{MAX_DEPTH}
use Rattle.data_layer.specs.Layer.{nest}
use Rattle.data_layer.specs.Merge.{put}

-- whether something stands on the way to the parts that is no Map: the value itself, where parts
-- are left, or what stands on the way behind its member
abbrev pub is_in_the_way : List (List ℕ) → Tree → Bool
is_in_the_way [] t = false
is_in_the_way (part ∷ parts) (object es) =
    option_map_or (is_in_the_way parts) (member part es) false
is_in_the_way (part ∷ parts) _ = true

-- a path is blocked where it has too many parts, and where something on the way is no Map
abbrev pub is_blocked : List (List ℕ) → Tree → Bool
is_blocked parts globals = nat_lt MAX_DEPTH (length parts) || is_in_the_way parts globals

-- the members of a Map; any other value has none
abbrev pub members_in : Tree → Entries
members_in (object es) = es
members_in _ = none

-- the tree with this value at the parts, whose missing parents become Maps
abbrev pub set_at : List (List ℕ) → Tree → Tree → Tree
set_at [] v t = v
set_at (part ∷ parts) v t = object (put part (set_at parts v) (nest parts v) (members_in t))
