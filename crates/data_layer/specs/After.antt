-- A merge, path by path.
use Rattle.std.specs.Prelude.{◌≡◌, ℕ, List, [], ◌∷◌, ◌++◌, Option, Some, None, Bool, false, ◌||◌}
use Rattle.std.specs.Prelude.{if◌then◌else◌, IsSome}
use Rattle.std.specs.Str.{bytes_eq}
use Rattle.gtm_data.specs.Tree.{Tree, list, object, Entries, none, entry}
use Rattle.gtm_data.specs.Paths.{Step, at}

-- what may stand at a path
pub data Kind : Type 0 where
  absent : Kind
  leaf : Kind
  a_list : Kind
  a_map : Kind

-- what kind of value it is, if there is one
abbrev pub kind : Option Tree → Kind
kind None = absent
kind (Some (list ts)) = a_list
kind (Some (object es)) = a_map
kind (Some _) = leaf

-- both Lists, or both Maps
abbrev pub Meet : Kind → Kind → Type 0
Meet a_list a_list = Unit {0}
Meet a_map a_map = Unit {0}
Meet _ _ = ⊥

-- at the path and at every path above it, both have Lists or both have Maps
abbrev pub MeetDownTo : List Step → Tree → Tree → Type 0
MeetDownTo path n m =
    (front rest : List Step) → front ++ rest ≡ path → Meet (kind (at front n)) (kind (at front m))

-- the keys of a Map, in order
abbrev pub keys : Entries → List (List ℕ)
keys none = []
keys (entry key t es) = key ∷ keys es

-- whether it is one of the keys
abbrev pub is_among : List ℕ → List (List ℕ) → Bool
is_among key [] = false
is_among key (other ∷ others) = bytes_eq other key || is_among key others

-- the keys that are not among the old ones, in order
abbrev pub new_keys : List (List ℕ) → List (List ℕ) → List (List ℕ)
new_keys old [] = []
new_keys old (key ∷ others) =
    if is_among key old then new_keys old others else key ∷ new_keys old others

-- what r is, after n was merged into m
pub record After (n m r : Tree) : Type 0 where
  -- what n has at a path and is neither a List nor a Map, r has there
  pub value : (path : List Step) (v : Tree) → at path n ≡ Some v → kind (Some v) ≡ leaf
      → at path r ≡ Some v
  -- where n has a List or a Map, r has one too
  pub container : (path : List Step) (v : Tree) → at path n ≡ Some v
      → kind (at path r) ≡ kind (Some v)
  -- what n lacks is kept, where all that n has above it meets what m has there
  pub kept : (path : List Step) → at path n ≡ None
      → ((front rest : List Step) → front ++ rest ≡ path → IsSome (at front n)
      → Meet (kind (at front n)) (kind (at front m))) → at path r ≡ at path m
  -- and else it is lost
  pub lost : (front rest : List Step) → at (front ++ rest) n ≡ None → IsSome (at front n)
      → (Meet (kind (at front n)) (kind (at front m)) → ⊥) → at (front ++ rest) r ≡ None
  -- a Map that was merged into one of m has the keys of that, in order, and behind them the new
  -- ones of n
  pub merged_keys : (path : List Step) (es ms : Entries) → at path n ≡ Some (object es)
      → at path m ≡ Some (object ms) → MeetDownTo path n m
      → (rs : Entries)
      × ((at path r ≡ Some (object rs)) × (keys rs ≡ keys ms ++ new_keys (keys ms) (keys es)))
  -- any other Map of n stands as it was
  pub other_keys : (front rest : List Step) (es : Entries) → at (front ++ rest) n ≡ Some (object es)
      → (Meet (kind (at front n)) (kind (at front m)) → ⊥) → at (front ++ rest) r ≡ Some (object es)
