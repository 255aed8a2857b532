-- The first broken rule of a list of rules.
use Rattle.std.proofs.Common.{◌≡◌, ℕ, List, [], ◌∷◌, Option, Some, None, refl}
use Rattle.std.specs.Prelude.{is_some, if◌then◌else◌}
use Rattle.std.specs.Option.{option_map_or}
use Rattle.serde_json.specs.Data as json
use Rattle.export_reader.specs.FirstBroken.{version_rules, first_of}

-- an export whose tree has data, in the right format, without a container version
pub lacks_version : (whole deep format : Option (List ℕ)) (version : Option json.Data)
    (place path : List ℕ) → whole ≡ None → deep ≡ None → None ≡ format → None ≡ version
    → path ≡ place
    → first_of
    ((3, whole) ∷ (4, deep) ∷ (5, format) ∷ (6, if is_some version then None else Some place)
    ∷ option_map_or version_rules version []) ≡ Some (6, path)
lacks_version whole deep format version place path fine shallow two none is =
    rw (fine, shallow, ← two, ← none, is) refl
