-- The patterns of a table whose keys are patterns.
use Rattle.std.specs.Prelude.{ℕ, List, [], ◌∷◌, ◌++◌, codes, if◌then◌else◌}
use Rattle.std.specs.Option.{option_map_or}
use Rattle.gtm_data.specs.Paths.{member_of}
use Rattle.gtm_data.specs.TextOf.{text_of}
use Rattle.gtm_data.specs.Tree.{Tree, Trees, end, item}
use Rattle.variable_kinds.specs.Fields.{is_set}

-- the pattern that a key is where it has to match the whole text
abbrev pub whole_pattern : Tree → List ℕ → List ℕ
whole_pattern fields key =
    if is_set (codes "fullMatch") fields then codes "^(?:" ++ key ++ codes ")$" else key

-- the pattern that a key is
abbrev pub pattern_in : Tree → List ℕ → List ℕ
pattern_in fields key =
    if is_set (codes "ignoreCase") fields then codes "(?i)" ++ whole_pattern fields key
    else whole_pattern fields key

-- the pattern of a row, if it has one
abbrev pub row_patterns : Tree → Tree → List (List ℕ)
row_patterns fields row =
    option_map_or (λ key. pattern_in fields (text_of key) ∷ []) (member_of (codes "key") row) []

-- the patterns of all rows
abbrev pub patterns_of : Tree → Trees → List (List ℕ)
patterns_of fields end = []
patterns_of fields (item row rows) = row_patterns fields row ++ patterns_of fields rows
