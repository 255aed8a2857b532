-- The table of the calls that a script can ask for.
use Rattle.std.specs.Prelude.{ℕ, ◌==◌, List, [], map, Option, Bool, slice_index_or}
use Rattle.std.specs.List.{list_any, position_from}
use Rattle.std.specs.Str.{bytes_eq}
use Rattle.perm_model.specs.declared.apis.TheConstants.{APIS}

-- a name, and the places of its functions
abbrev pub Row : Type 0
Row = List ℕ × List ℕ

-- the place of the first row with this name, counted from 0
abbrev pub row_named : List Row → List ℕ → Option ℕ
row_named table name = position_from (λ r. bytes_eq r.0 name) 0 table

abbrev pub row_at : List Row → ℕ → Row
row_at table at = slice_index_or table at ([], [])

-- a function that may be called back stands at this place
abbrev pub is_place_of : Row → ℕ → Bool
is_place_of row index = list_any (λ place. place == index) row.1

unfoldable pub rows : List Row
rows = map (λ r. (r.0.now, r.1.now)) APIS

abbrev pub api_named : List ℕ → Option ℕ
api_named name = row_named rows name

abbrev pub api_name : ℕ → List ℕ
api_name api = (row_at rows api).0

abbrev pub is_callback_place : ℕ → ℕ → Bool
is_callback_place api index = is_place_of (row_at rows api) index
