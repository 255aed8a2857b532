-- Maps from texts to places.
use Rattle.std.specs.Prelude.{◌≡◌, ℕ, List}
use Rattle.std.specs.Str.{chars, IsUtf8}
use Rattle.std.specs.BTreeMap.{BTreeMap, get_by}
use Rattle.std.specs.Cmp.Lexicographic.{slice_cmp}
use Rattle.std.specs.Ordering.{nat_cmp}
use Rattle.text_places.specs.Places.{place_of}
use denote.Ref.{Bor}

-- the map has the first place of each of these texts, and no other text
pub record Indexes (first : BTreeMap (Bor (List ℕ)) ℕ) (texts : List (List ℕ)) : Type 0 where
  pub places : (key : List ℕ) → IsUtf8 key
      → get_by (λ k. slice_cmp nat_cmp key k.now) first ≡ place_of (chars key) texts
