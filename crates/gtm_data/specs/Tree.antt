-- The tree that a value stands for: plain numbers, texts and lists.
use Rattle.std.specs.Prelude.{ℕ, suc, max, ℤ, List, [], ◌∷◌, map, Bool, Option, Some, None}
use Rattle.gtm_base.specs.KeysStay.{on_value}
use Rattle.gtm_data.specs.declared.data.Data.{Data, fold-Data}
use Rattle.gtm_data.specs.declared.data.Data.TheOpen.{Data-F}

-- a value, with numbers, texts and lists for what it holds
mutual
  pub data Tree : Type 0 where
    undefined : Tree
    null : Tree
    bool : Bool → Tree
    whole : ℤ → Tree
    text : List ℕ → Tree
    list : Trees → Tree
    object : Entries → Tree
    foreign : Tree
    callback : ℕ → Tree

  -- the items of a List
  pub data Trees : Type 0 where
    end : Trees
    item : Tree → Trees → Trees

  -- the members of a Map
  pub data Entries : Type 0 where
    none : Entries
    entry : List ℕ → Tree → Entries → Entries

-- a list of trees as the items of a List
abbrev pub trees : List Tree → Trees
trees [] = end
trees (t ∷ ts) = item t (trees ts)

-- a list of keys and trees as the members of a Map
abbrev pub entries : List (List ℕ × Tree) → Entries
entries [] = none
entries (e ∷ es) = entry e.0 e.1 (entries es)

-- one level, with each value inside already seen as its tree
abbrev pub tree_step : Data-F Tree → Tree
tree_step Data-F.Undefined = undefined
tree_step Data-F.Null = null
tree_step (Data-F.Bool b) = bool b
tree_step (Data-F.Whole number) = whole number
tree_step (Data-F.Text t) = text t
tree_step (Data-F.List items) = list (trees items)
tree_step (Data-F.Map members) = object (entries members.pairs)
tree_step Data-F.Foreign = foreign
tree_step (Data-F.Callback number) = callback number

-- the tree of a value
abbrev pub tree_of : Data → Tree
tree_of = fold-Data Tree tree_step

-- the trees of the items of a List
abbrev pub trees_of : List Data → Trees
trees_of items = trees (map tree_of items)

-- the trees of the members of a Map, by their keys
abbrev pub entries_of : List (List ℕ × Data) → Entries
entries_of members = entries (map (on_value tree_of) members)

-- how deep Lists and Maps nest
unfoldable mutual
  pub depth : Tree → ℕ
  depth undefined = 0
  depth null = 0
  depth (bool b) = 0
  depth (whole number) = 0
  depth (text t) = 0
  depth (list ts) = suc (items_depth ts)
  depth (object es) = suc (members_depth es)
  depth foreign = 0
  depth (callback number) = 0

  -- the greatest depth of the items
  pub items_depth : Trees → ℕ
  items_depth end = 0
  items_depth (item t ts) = max (depth t) (items_depth ts)

  -- the greatest depth of the values
  pub members_depth : Entries → ℕ
  members_depth none = 0
  members_depth (entry key t es) = max (depth t) (members_depth es)

-- the text that a value is, if it is one
abbrev pub text_in : Tree → Option (List ℕ)
text_in (text t) = Some t
text_in _ = None
