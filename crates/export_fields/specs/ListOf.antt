-- Lists of values that are read alike.
use Rattle.std.specs.Prelude.{◌≡◌, ◌<◌, ◌+◌, ℕ, List, [], ◌∷◌, Option, Some, None, option_map}
use Rattle.std.specs.Prelude.{option_and_then}
use Rattle.std.specs.Option.{option_map_or}
use Rattle.serde_json.specs.Data.{Data, Items, no_items, item}
use Rattle.serde_json.specs.Find.{get, get_item, as_array}
use Rattle.export_fields.specs.Fault.{in_index, ◌then◌}
use Rattle.export_fields.specs.Fields.{optional}

-- the first fault of items, the first of which stands at this place
abbrev pub items_fault : (Data → Option (List ℕ)) → ℕ → Items → Option (List ℕ)
items_fault fault place no_items = None
items_fault fault place (item d ds) =
    option_map (in_index place) (fault d) then items_fault fault (place + 1) ds

-- the fault of the first item that has one, with its place before the path
pub record IsFirstFault (fault : Data → Option (List ℕ)) (items : Items) (path : List ℕ) : Type 0
  where
    pub place : ℕ
    pub value : Data
    pub inner : List ℕ
    pub stands : get_item place items ≡ Some value
    pub breaks : fault value ≡ Some inner
    pub before : (earlier : ℕ) (d : Data) → earlier < place → get_item earlier items ≡ Some d
        → fault d ≡ None
    pub path_is : path ≡ in_index place inner

-- what items stand for
abbrev pub items_made : {T : Type 0} → (Data → T) → Items → List T
items_made made no_items = []
items_made made (item d ds) = made d ∷ items_made made ds

-- the fault of a value that has to be a list: the value itself, or that of its items
abbrev pub array_fault : (Items → Option (List ℕ)) → Option Items → Option (List ℕ)
array_fault fault None = Some []
array_fault fault (Some ds) = fault ds

-- the fault of a list at a key
unfoldable pub list_fault : (Data → Option (List ℕ)) → List ℕ → Data → Option (List ℕ)
list_fault fault = optional (λ d. array_fault (items_fault fault 0) (as_array d))

-- the list at a key, or the empty one
unfoldable pub list_at : {T : Type 0} → (Data → T) → List ℕ → Data → List T
list_at made key d = option_map_or (items_made made) (option_and_then as_array (get key d)) []
