-- The row of a table that is found, by its place.
use Rattle.std.specs.Prelude.{◌≡◌, ◌<◌, ℕ, List, Bool, true, false, codes, Some}
use Rattle.std.specs.Option.{option_map_or}
use Rattle.gtm_data.specs.Paths.{member_of, nth}
use Rattle.gtm_data.specs.TextOf.{text_of}
use Rattle.gtm_data.specs.Tree.{Tree, Trees}
use Rattle.variable_kinds.specs.Fields.{field}

-- the row has a key whose text passes the test
abbrev pub passes_by_key : (List ℕ → Bool) → Tree → Bool
passes_by_key passes row =
    option_map_or (λ key. passes (text_of key)) (member_of (codes "key") row) false

-- a row passes, none before it does, and this is its value
pub record IsFirstFound (passes : List ℕ → Bool) (rows : Trees) (value : Tree) : Type 0 where
  pub place : ℕ
  pub row : Tree
  pub stands : nth place rows ≡ Some row
  pub passed : passes_by_key passes row ≡ true
  pub first : (earlier : ℕ) (other : Tree) → earlier < place → nth earlier rows ≡ Some other
      → passes_by_key passes other ≡ false
  pub given : value ≡ field (codes "value") row

-- no row passes
pub record IsNoneFound (passes : List ℕ → Bool) (rows : Trees) : Type 0 where
  pub nowhere : (place : ℕ) (row : Tree) → nth place rows ≡ Some row
      → passes_by_key passes row ≡ false
