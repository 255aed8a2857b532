-- That no Map of a tree has a key twice.
use Rattle.std.specs.Prelude.{◌≡◌, ℕ, List, Bool, false, ◌||◌}
use Rattle.std.specs.Str.{bytes_eq}
use Rattle.gtm_data.specs.Tree.{Tree, undefined, null, bool, whole, text, list, object, foreign}
use Rattle.gtm_data.specs.Tree.{callback, Trees, end, item, Entries, none, entry}

-- whether some member has this key
abbrev pub has_member : List ℕ → Entries → Bool
has_member name none = false
has_member name (entry key t es) = bytes_eq key name || has_member name es

-- no Map in it has a key twice
abbrev mutual
  pub Distinct : Tree → Type 0
  Distinct undefined = Unit {0}
  Distinct null = Unit {0}
  Distinct (bool b) = Unit {0}
  Distinct (whole number) = Unit {0}
  Distinct (text t) = Unit {0}
  Distinct (list ts) = DistinctItems ts
  Distinct (object es) = DistinctEntries es
  Distinct foreign = Unit {0}
  Distinct (callback number) = Unit {0}

  -- the same of each item
  pub DistinctItems : Trees → Type 0
  DistinctItems end = Unit {0}
  DistinctItems (item t ts) = Distinct t × DistinctItems ts

  -- no two members have the same key, and the same of each value
  pub DistinctEntries : Entries → Type 0
  DistinctEntries none = Unit {0}
  DistinctEntries (entry key t es) = (has_member key es ≡ false) × Distinct t × DistinctEntries es
