-- JSON trees in which each member can be told by its key, and each item by its place.
use Rattle.std.specs.Prelude.{◌≡◌, ◌≤◌, ◌^◌, ◌+◌, ℕ, None}
use Rattle.std.specs.Str.{IsUtf8}
use Rattle.serde_json.specs.Data as json
use Rattle.serde_json.specs.Find.{get_member}

-- how many items there are
abbrev pub count_of : json.Items → ℕ
count_of json.no_items = 0
count_of (json.item d ds) = count_of ds + 1

-- each object within a tree has each of its keys once, in UTF-8, and each array has at most 2^64
-- items, as those in memory have
unfoldable mutual
  pub IsKeyed : json.Data → Type 0
  IsKeyed (json.array ds) = (count_of ds ≤ 2 ^ 64) × AreKeyed ds
  IsKeyed (json.object ms) = HaveEachKey ms
  IsKeyed _ = Unit {0}

  -- so is each item
  pub AreKeyed : json.Items → Type 0
  AreKeyed json.no_items = Unit {0}
  AreKeyed (json.item d ds) = IsKeyed d × AreKeyed ds

  -- and each member
  pub HaveEachKey : json.Members → Type 0
  HaveEachKey json.no_members = Unit {0}
  HaveEachKey (json.member key d ms) =
      IsUtf8 key × (get_member key ms ≡ None) × IsKeyed d × HaveEachKey ms
