-- The places of the keys of many pairs, kept in order of the keys.
use Rattle.std.specs.Prelude.{ℕ, suc, List, [], ◌∷◌, length, map, nat_lt, encode_utf8_all}
use Rattle.std.specs.Prelude.{Option, Some, None, if◌then◌else◌, String, string_bytes}
use Rattle.std.specs.BTreeMap.{BTreeMap, insert_entry}
use Rattle.std.specs.Cmp.Lexicographic.{slice_cmp}
use Rattle.std.specs.Map.{lookup}
use Rattle.std.specs.Ordering.{is_eq, nat_cmp}
use Rattle.std.specs.declared.alloc.Global.{Global}
use Rattle.gtm_base.specs.declared.key_places.TheConstants.{MAX_SCANNED}

-- keys in UTF-8, in order of their bytes, each with a place
abbrev pub Places : Type 0
Places = List (List ℕ × ℕ)

-- the place that is kept for a key
abbrev pub kept_place : List ℕ → Places → Option ℕ
kept_place key places = lookup (λ kept. is_eq (slice_cmp nat_cmp (encode_utf8_all key) kept)) places

-- the place of one more key is kept
abbrev pub with_place : List ℕ → ℕ → Places → Places
with_place key at places = insert_entry (slice_cmp nat_cmp) places (encode_utf8_all key) at

-- the places of these pairs are kept too, of which the first stands at this place
abbrev pub with_places : {A : Type 0} → ℕ → List (List ℕ × A) → Places → Places
with_places at [] places = places
with_places at (pair ∷ pairs) places = with_places (suc at) pairs (with_place pair.0 at places)

-- the places of pairs; of few pairs none are kept
abbrev pub places_of : {A : Type 0} → List (List ℕ × A) → Option Places
places_of pairs =
    if nat_lt MAX_SCANNED (length pairs) then Some (with_places 0 pairs []) else None

-- the entries of a map as keys and places
abbrev pub places_in : BTreeMap (String Global) ℕ → Places
places_in tree = map (λ entry. (string_bytes entry.0, entry.1)) tree.entries
