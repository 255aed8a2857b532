-- The first fault in a list.
use Rattle.std.specs.Prelude.{◌≡◌, ◌<◌, ℕ, suc, List, [], ◌∷◌, Option, Some, None, option_map}
use Rattle.std.specs.Prelude.{slice_get}
use Rattle.export_fields.specs.Fault.{in_key, in_index, ◌then◌}

-- the path of the first fault of these items, the first of which stands at this place
abbrev pub items_fault : {A : Type 0} → (A → Option (List ℕ)) → ℕ → List A → Option (List ℕ)
items_fault fault place [] = None
items_fault fault place (x ∷ xs) =
    option_map (in_index place) (fault x) then items_fault fault (suc place) xs

-- the path of the first fault in the list at a key
abbrev pub list_fault : {A : Type 0} → List ℕ → (A → Option (List ℕ)) → List A → Option (List ℕ)
list_fault key fault xs = option_map (in_key key) (items_fault fault 0 xs)

-- the item at some place has this fault, and no item before it has any: the path goes by the place
pub record IsFirstFault {A : Type 0} (fault : A → Option (List ℕ)) (items : List A)
    (path : List ℕ) : Type 0 where
  pub place : ℕ
  pub item : A
  pub inner : List ℕ
  pub stands : slice_get items place ≡ Some item
  pub breaks : fault item ≡ Some inner
  pub before : (earlier : ℕ) (other : A) → earlier < place → slice_get items earlier ≡ Some other
      → fault other ≡ None
  pub path_is : path ≡ in_index place inner
