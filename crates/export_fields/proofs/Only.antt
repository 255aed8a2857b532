-- Lists of more than one item.
use Rattle.std.proofs.Common.{◌≡◌, ℕ, ◌<◌, List, [], ◌∷◌, Option, Some, length, refl, arith}
use Rattle.serde_json.specs.Data.{Data}
use Rattle.serde_json.specs.View.{items_view}
use Rattle.serde_json.specs.declared.value.Value.{Value}
use Rattle.export_fields.specs.Objects.{only_fault}

-- two or more items are a fault of the list itself
pub only_fault_of_many : (fault : Data → Option (List ℕ)) (vs : List Value) → 1 < length vs
    → only_fault fault (items_view vs) ≡ Some []
only_fault_of_many fault [] h = absurd (omega arith)
only_fault_of_many fault (v ∷ []) h = absurd (omega arith)
only_fault_of_many fault (v ∷ w ∷ vs) h = refl
