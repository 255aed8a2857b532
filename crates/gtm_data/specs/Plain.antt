-- The data of a JSON tree.
use Rattle.std.specs.Prelude.{ℕ, ◌+◌, ℤ, pos, negsuc, List, [], ◌∷◌, ◌++◌, map, find, Bool, true}
use Rattle.std.specs.Prelude.{false, not, ◌&&◌, Option, Some, None, option_map, option_and_then}
use Rattle.std.specs.Prelude.{is_some, codes, ◌==◌, nat_le, unwrap_or, if◌then◌else◌, int_lt}
use Rattle.std.specs.Prelude.{decimal}
use Rattle.std.specs.List.{flat_map}
use Rattle.std.specs.Str.{chars}
use Rattle.serde_json.specs.Data as json
use Rattle.serde_json.specs.Find.{as_i64}
use Rattle.gtm_data.specs.declared.limits.TheConstants.{MAX_DEPTH}
use Rattle.gtm_data.specs.Tree.{Tree, null, bool, whole, text, list, object, Trees, end, item}
use Rattle.gtm_data.specs.Tree.{Entries, none, entry}

-- the number, where it lies from -9007199254740991 to 9007199254740991
abbrev pub in_range : ℤ → Option ℤ
in_range z =
    if int_lt (negsuc 9007199254740991) z && int_lt z (pos 9007199254740992) then Some z else None

-- the number of a JSON tree, where it is whole and in range
abbrev pub whole_of : json.Num → Option ℤ
whole_of number = option_and_then in_range (as_i64 number)

-- the tree of a JSON tree whose numbers are all whole and in range; another number stands as 0
unfoldable mutual
  pub tree_in : json.Data → Tree
  tree_in json.null = null
  tree_in (json.boolean b) = bool b
  tree_in (json.number x) = whole (unwrap_or (whole_of x) (pos 0))
  tree_in (json.string s) = text (chars s)
  tree_in (json.array ds) = list (trees_in ds)
  tree_in (json.object ms) = object (entries_in ms)

  -- the same of the items of a List
  pub trees_in : json.Items → Trees
  trees_in json.no_items = end
  trees_in (json.item d ds) = item (tree_in d) (trees_in ds)

  -- the same of the members of a Map
  pub entries_in : json.Members → Entries
  entries_in json.no_members = none
  entries_in (json.member key d ms) = entry (chars key) (tree_in d) (entries_in ms)

-- one character of a key within a JSON pointer (RFC 6901)
abbrev pub pointer_char : ℕ → List ℕ
pointer_char c = if c == 126 then codes "~0" else (if c == 47 then codes "~1" else c ∷ [])

-- the part of a JSON pointer that leads to the member with this key
abbrev pub key_step : List ℕ → List ℕ
key_step name = 47 ∷ flat_map pointer_char name

-- the part of a JSON pointer that leads to the item at this place
abbrev pub index_step : ℕ → List ℕ
index_step place = 47 ∷ decimal place

-- a value within a JSON tree: the JSON pointer to it (RFC 6901), in how many Lists and Maps it
-- stands, and the value
pub record Node : Type 0 where
  pub path : List ℕ
  pub above : ℕ
  pub value : json.Data

-- a tree as the first of the values within it
abbrev pub root : json.Data → Node
root d = record { path = []; above = 0; value = d }

-- a value within a tree, seen from the List or Map in which the tree stands at this step
abbrev pub inside : List ℕ → Node → Node
inside step node = record { path = step ++ node.path; above = node.above + 1; value = node.value }

-- every value within a tree, in order of walking: a value before those inside it, items and members
-- in their order
unfoldable mutual
  pub nodes : json.Data → List Node
  nodes json.null = root json.null ∷ []
  nodes (json.boolean b) = root (json.boolean b) ∷ []
  nodes (json.number x) = root (json.number x) ∷ []
  nodes (json.string s) = root (json.string s) ∷ []
  nodes (json.array ds) = root (json.array ds) ∷ item_nodes 0 ds
  nodes (json.object ms) = root (json.object ms) ∷ member_nodes ms

  -- every value within the items of a List, from the one at this place on
  pub item_nodes : ℕ → json.Items → List Node
  item_nodes place json.no_items = []
  item_nodes place (json.item d ds) =
      map (inside (index_step place)) (nodes d) ++ item_nodes (place + 1) ds

  -- every value within the members of a Map
  pub member_nodes : json.Members → List Node
  member_nodes json.no_members = []
  member_nodes (json.member key d ms) =
      map (inside (key_step (chars key))) (nodes d) ++ member_nodes ms

-- the path of the first value of which this holds
abbrev pub first_path : (Node → Bool) → List Node → Option (List ℕ)
first_path holds ns = option_map (λ node. node.path) (find holds ns)

-- whether it is a number that is not whole and in range
abbrev pub is_unfit : json.Data → Bool
is_unfit (json.number x) = not (is_some (whole_of x))
is_unfit _ = false

-- whether a value within a tree is such a number
abbrev pub is_unfit_at : Node → Bool
is_unfit_at node = is_unfit node.value

-- whether it is a List or a Map
abbrev pub is_nest : json.Data → Bool
is_nest (json.array ds) = true
is_nest (json.object ms) = true
is_nest _ = false

-- whether a value within a tree is a List or a Map with at least so many Lists and Maps above it
abbrev pub is_nest_below : ℕ → Node → Bool
is_nest_below allowed node = is_nest node.value && nat_le allowed node.above

-- the path of the first number that is not whole and in range
abbrev pub not_whole : json.Data → Option (List ℕ)
not_whole d = first_path is_unfit_at (nodes d)

-- the path of the first List or Map that has as many Lists and Maps above it as data may be deep
abbrev pub too_deep : json.Data → Option (List ℕ)
too_deep d = first_path (is_nest_below MAX_DEPTH) (nodes d)

-- the tree, where there is neither path
abbrev pub tree_unless : Option (List ℕ) → Option (List ℕ) → Tree → Option Tree
tree_unless None None t = Some t
tree_unless _ _ t = None

-- the data of a JSON tree: there is some exactly where each number is whole and in range and it is
-- not too deep
abbrev pub plain : json.Data → Option Tree
plain d = tree_unless (not_whole d) (too_deep d) (tree_in d)
