-- What shows at a path, apart from what is further inside.
use Rattle.std.specs.Prelude.{ℕ, List, Option, Some, None}
use Rattle.gtm_data.specs.Tree.{Tree, list, object}
use Rattle.data_layer.specs.After.{keys}

-- nothing, a value without parts, a List, or a Map with these keys
pub data Shown : Type 0 where
  nothing : Shown
  plain : Tree → Shown
  a_list_there : Shown
  a_map_there : List (List ℕ) → Shown

-- what a value shows, if there is one
abbrev pub shown : Option Tree → Shown
shown None = nothing
shown (Some (list ts)) = a_list_there
shown (Some (object es)) = a_map_there (keys es)
shown (Some t) = plain t
