-- A parameter by its parts, those in its list and its map by their keys.
use Rattle.std.proofs.Common.{◌≡◌, ℕ, ◌+◌, List, [], ◌∷◌, Option, Some, None, option_map}
use Rattle.std.proofs.Common.{option_and_then, Ordering, Less, Equal, Greater, codes, refl, ap, ◌∙◌}
use Rattle.std.proofs.Common.{nat_cmp}
use Rattle.std.specs.Option.{option_map_or}
use Rattle.std.specs.Ordering.{match_ordering}
use Rattle.std.specs.Cmp.Lexicographic.{slice_cmp}
use Rattle.serde_json.specs.Data.{Data, null, boolean, number, string, array, object, Items}
use Rattle.serde_json.specs.Data.{no_items, item, Members, no_members, member}
use Rattle.serde_json.specs.Find.{get, get_member, as_array}
use Rattle.export_fields.specs.Fault.{in_key, in_index, ◌then◌}
use Rattle.export_fields.specs.Fields.{not_object}
use Rattle.export_fields.specs.ListOf.{items_fault, items_made, array_fault, list_fault, list_at}
use Rattle.export_fields.specs.Params.{as_param, as_params, member_params, not_param, not_params}
use Rattle.export_fields.specs.Params.{member_params_fault, param_with, param_fault_with}
use Rattle.export_fields.specs.Params.{nested_fault, nested_at, item_params, item_params_fault}
use Rattle.export_fields.specs.Params.{IsReadByFields}

-- a choice by an order, and what a function makes of it
on_ordering : {A B : Type 0} (f : A → B) (z : B) (o : Ordering) (r : Option A) (x : A) (s : B)
    → s ≡ option_map_or f r z
    → match_ordering o s (f x) s ≡ option_map_or f (match_ordering o r (Some x) r) z
on_ordering f z Less r x s e = e
on_ordering f z Equal r x s e = refl
on_ordering f z Greater r x s e = e

-- the parameters of the member that `get` finds
member_params_get : (key : List ℕ) (ms : Members)
    → member_params key ms ≡ option_map_or as_params (get_member key ms) []
unfolding member_params
member_params_get key no_members = refl
member_params_get key (member k d ms) =
    on_ordering as_params [] (slice_cmp nat_cmp key k) (get_member key ms) d _
    (member_params_get key ms)

-- the fault of the member that `get` finds
member_params_fault_get : (key : List ℕ) (ms : Members)
    → member_params_fault key ms
    ≡ option_map_or (λ e. option_map (in_key key) (not_params e)) (get_member key ms) None
unfolding member_params_fault
member_params_fault_get key no_members = refl
member_params_fault_get key (member k d ms) =
    on_ordering (λ e. option_map (in_key key) (not_params e)) None (slice_cmp nat_cmp key k)
    (get_member key ms) d _ (member_params_fault_get key ms)

-- a parameter has the parameters at its two keys
pub as_param_parts : (d : Data)
    → as_param d ≡ param_with d (nested_at (codes "list") d) (nested_at (codes "map") d)
unfolding as_param nested_at
as_param_parts null = refl
as_param_parts (boolean b) = refl
as_param_parts (number n) = refl
as_param_parts (string s) = refl
as_param_parts (array ds) = refl
as_param_parts (object ms) =
    λ i. param_with (object ms) (member_params_get (codes "list") ms i)
    (member_params_get (codes "map") ms i)

-- its first fault is itself, or the first of its fields
pub not_param_parts : (d : Data)
    → not_param d
    ≡ (not_object d
    then param_fault_with d (nested_fault (codes "list") d) (nested_fault (codes "map") d))
unfolding not_param nested_fault not_object
not_param_parts null = refl
not_param_parts (boolean b) = refl
not_param_parts (number n) = refl
not_param_parts (string s) = refl
not_param_parts (array ds) = refl
not_param_parts (object ms) =
    λ i. param_fault_with (object ms) (member_params_fault_get (codes "list") ms i)
    (member_params_fault_get (codes "map") ms i)

-- items as parameters are items that are read alike
item_params_made : (ds : Items) → item_params ds ≡ items_made as_param ds
unfolding item_params
item_params_made no_items = refl
item_params_made (item d ds) = ap (λ rest. as_param d ∷ rest) (item_params_made ds)

-- and so are their faults
item_params_fault_alike : (place : ℕ) (ds : Items)
    → item_params_fault place ds ≡ items_fault not_param place ds
unfolding item_params_fault
item_params_fault_alike place no_items = refl
item_params_fault_alike place (item d ds) =
    ap (λ rest. option_map (in_index place) (not_param d) then rest)
    (item_params_fault_alike (place + 1) ds)

-- a value as parameters, by its items
as_params_made : (o : Option Data)
    → option_map_or as_params o []
    ≡ option_map_or (items_made as_param) (option_and_then as_array o) []
unfolding as_params
as_params_made None = refl
as_params_made (Some null) = refl
as_params_made (Some (boolean b)) = refl
as_params_made (Some (number n)) = refl
as_params_made (Some (string s)) = refl
as_params_made (Some (array ds)) = item_params_made ds
as_params_made (Some (object ms)) = refl

-- its fault, by its items
not_params_alike : (d : Data) → not_params d ≡ array_fault (items_fault not_param 0) (as_array d)
unfolding not_params
not_params_alike null = refl
not_params_alike (boolean b) = refl
not_params_alike (number n) = refl
not_params_alike (string s) = refl
not_params_alike (array ds) = item_params_fault_alike 0 ds
not_params_alike (object ms) = refl

-- the fault at a key
optional_alike : (key : List ℕ) (o : Option Data)
    → option_map_or (λ e. option_map (in_key key) (not_params e)) o None
    ≡ option_map_or
    (λ e. option_map (in_key key) (array_fault (items_fault not_param 0) (as_array e))) o None
optional_alike key None = refl
optional_alike key (Some d) = ap (option_map (in_key key)) (not_params_alike d)

-- the parameters at a key are a list of parameters that are read alike
nested_is_list : (key : List ℕ) (d : Data) → nested_at key d ≡ list_at as_param key d
unfolding nested_at list_at
nested_is_list key d = as_params_made (get key d)

-- and so is their fault
nested_fault_is_lists : (key : List ℕ) (d : Data) → nested_fault key d ≡ list_fault not_param key d
unfolding nested_fault list_fault
nested_fault_is_lists key d = optional_alike key (get key d)

-- a parameter is read by its fields
pub reads_by_fields : (d : Data) → IsReadByFields d
reads_by_fields d = record {
  fault =
      not_param_parts d
      ∙ (λ i. not_object d
      then param_fault_with d (nested_fault_is_lists (codes "list") d i)
      (nested_fault_is_lists (codes "map") d i));
  value =
      as_param_parts d
      ∙ (λ i. param_with d (nested_is_list (codes "list") d i) (nested_is_list (codes "map") d i));
}
