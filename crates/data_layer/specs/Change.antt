-- A tree with another value at a dotted path.
use Rattle.std.specs.Prelude.{ℕ, ◌+◌, List, [], ◌∷◌, decimal, if◌then◌else◌}
use Rattle.std.specs.Str.{bytes_eq}
use Rattle.gtm_data.specs.Tree.{Tree, list, object, Trees, end, item, Entries, none, entry}

-- the members, with the value at the key changed
abbrev pub change_member : List ℕ → (Tree → Tree) → Entries → Entries
change_member name change none = none
change_member name change (entry key t es) =
    if bytes_eq key name then entry key (change t) es
    else entry key t (change_member name change es)

-- the items, with the one changed whose index, counted on from here, is written so in decimal
-- digits
abbrev pub change_numbered : ℕ → List ℕ → (Tree → Tree) → Trees → Trees
change_numbered at name change end = end
change_numbered at name change (item t ts) =
    if bytes_eq (decimal at) name then item (change t) ts
    else item t (change_numbered (at + 1) name change ts)

-- a Map with the value at the key changed, or a List with the item at the index
abbrev pub change_named : List ℕ → (Tree → Tree) → Tree → Tree
change_named name change (object es) = object (change_member name change es)
change_named name change (list ts) = list (change_numbered 0 name change ts)
change_named name change t = t

-- a tree with the value changed to which the parts lead, one after the other; the tree itself where
-- they lead nowhere
abbrev pub changed_at : List (List ℕ) → (Tree → Tree) → Tree → Tree
changed_at [] change t = change t
changed_at (part ∷ parts) change t = change_named part (changed_at parts change) t
