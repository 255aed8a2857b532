-- One value at a key, alone or in a list of its own.
use Rattle.std.specs.Prelude.{ℕ, List, [], Option, Some, None, option_map, option_and_then}
use Rattle.serde_json.specs.Data.{Data, Items, no_items, item}
use Rattle.serde_json.specs.Find.{get, as_array}
use Rattle.export_fields.specs.Fault.{in_index}
use Rattle.export_fields.specs.Fields.{optional}
use Rattle.export_fields.specs.ListOf.{array_fault}

-- the fault of the value at a key
unfoldable pub object_fault : (Data → Option (List ℕ)) → List ℕ → Data → Option (List ℕ)
object_fault fault = optional fault

-- what the value at a key stands for
unfoldable pub object_at : {T : Type 0} → (Data → T) → List ℕ → Data → Option T
object_at made key d = option_map made (get key d)

-- the fault of items that have to be one at most: that of the one, and of more the list itself
abbrev pub only_fault : (Data → Option (List ℕ)) → Items → Option (List ℕ)
only_fault fault no_items = None
only_fault fault (item d no_items) = option_map (in_index 0) (fault d)
only_fault fault (item d (item e ds)) = Some []

-- what the first item stands for
abbrev pub only_of : {T : Type 0} → (Data → T) → Items → Option T
only_of made no_items = None
only_of made (item d ds) = Some (made d)

-- the fault of a list at a key that has to have one item at most
unfoldable pub single_fault : (Data → Option (List ℕ)) → List ℕ → Data → Option (List ℕ)
single_fault fault = optional (λ d. array_fault (only_fault fault) (as_array d))

-- what the one item of the list at a key stands for
unfoldable pub single_at : {T : Type 0} → (Data → T) → List ℕ → Data → Option T
single_at made key d = option_and_then (only_of made) (option_and_then as_array (get key d))
