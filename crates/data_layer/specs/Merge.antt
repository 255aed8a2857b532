-- What a tree becomes when another is merged into it.
use Rattle.std.specs.Prelude.{ℕ, zero, suc, List, if◌then◌else◌}
use Rattle.std.specs.Str.{bytes_eq}
use Rattle.gtm_data.specs.Tree.{Tree, undefined, null, bool, whole, text, list, object, foreign}
use Rattle.gtm_data.specs.Tree.{callback, Trees, end, item, Entries, none, entry}

-- changes the value at the key, or adds the tree last
abbrev pub put : List ℕ → (Tree → Tree) → Tree → Entries → Entries
put name change t none = entry name t none
put name change t (entry key m es) =
    if bytes_eq key name then entry key (change m) es else entry key m (put name change t es)

-- a List is changed, and anything else gives way to this tree
abbrev pub on_list : (Trees → Trees) → Tree → Tree → Tree
on_list change t (list ms) = list (change ms)
on_list change t _ = t

-- a Map is changed, and anything else gives way to this tree
abbrev pub on_object : (Entries → Entries) → Tree → Tree → Tree
on_object change t (object ms) = object (change ms)
on_object change t _ = t

-- the first item is changed, or this tree is added
abbrev pub on_items : Tree → (Tree → Tree) → (Trees → Trees) → Trees → Trees
on_items t change rest end = item t (rest end)
on_items t change rest (item m ms) = item (change m) (rest ms)

-- changes the item at the index, or adds the tree last
abbrev pub on_item : ℕ → (Tree → Tree) → Tree → Trees → Trees
on_item at change t end = item t end
on_item zero change t (item m ms) = item (change m) ms
on_item (suc at) change t (item m ms) = item m (on_item at change t ms)

-- the second tree, when the first is merged into it: Lists by index, Maps by key, and all else
-- overwrites
unfoldable mutual
  pub merge : Tree → Tree → Tree
  merge undefined m = undefined
  merge null m = null
  merge (bool b) m = bool b
  merge (whole number) m = whole number
  merge (text t) m = text t
  merge (list ts) m = on_list (merge_items ts) (list ts) m
  merge (object es) m = on_object (merge_members es) (object es) m
  merge foreign m = foreign
  merge (callback number) m = callback number

  -- the items of the second List, with those of the first merged into them by index
  pub merge_items : Trees → Trees → Trees
  merge_items end ms = ms
  merge_items (item t ts) ms = on_items t (merge t) (merge_items ts) ms

  -- the members of the second Map, with those of the first merged into them by key
  pub merge_members : Entries → Entries → Entries
  merge_members none ms = ms
  merge_members (entry key t es) ms = merge_members es (put key (merge t) t ms)
