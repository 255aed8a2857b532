-- Parameters, which nest.
use Rattle.std.specs.Prelude.{◌≡◌, ◌+◌, ℕ, List, [], ◌∷◌, Option, Some, None, option_map, codes}
use Rattle.std.specs.Option.{option_map_or}
use Rattle.std.specs.Ordering.{nat_cmp, match_ordering}
use Rattle.std.specs.Cmp.Lexicographic.{slice_cmp}
use Rattle.serde_json.specs.Data.{Data, null, boolean, number, string, array, object, Items}
use Rattle.serde_json.specs.Data.{no_items, item, Members, no_members, member}
use Rattle.serde_json.specs.Find.{get}
use Rattle.export_fields.specs.Fault.{in_key, in_index, ◌then◌}
use Rattle.export_fields.specs.Fields.{not_object, optional, text_fault, text_at}
use Rattle.export_fields.specs.ListOf.{list_fault, list_at}
use Rattle.export_fields.specs.Words.{word_fault, word_at}
use Rattle.folded_words.specs.Words.{among}
use Rattle.export_fields.specs.declared.params.ParamKind.{ParamKind}
use Rattle.export_fields.specs.declared.params.ParamKind.TheVariants.{Template, Integer, Boolean}
use Rattle.export_fields.specs.declared.params.ParamKind.TheVariants.{List as Listed, Map as Mapped}
use Rattle.export_fields.specs.declared.params.ParamKind.TheVariants.{TriggerReference}
use Rattle.export_fields.specs.declared.params.ParamKind.TheVariants.{TagReference}
use Rattle.export_fields.specs.declared.params.WrittenParam.{WrittenParam, roll-WrittenParam}

-- the words of the kinds
abbrev pub kind_words : List (List ℕ × ParamKind)
kind_words =
    (codes "template", Template)
    ∷ (codes "integer", Integer)
    ∷ (codes "boolean", Boolean)
    ∷ (codes "list", Listed)
    ∷ (codes "map", Mapped)
    ∷ (codes "triggerreference", TriggerReference)
    ∷ (codes "tagreference", TagReference)
    ∷ []

-- the kind that a word stands for
abbrev pub kind_named : List ℕ → Option ParamKind
kind_named word = among kind_words word

-- the parameter that a value stands for, with these parameters in its list and its map
abbrev pub param_with : Data → List WrittenParam → List WrittenParam → WrittenParam
param_with d list map = roll-WrittenParam record {
  kind = word_at kind_named Template (codes "type") d;
  key = text_at (codes "key") d;
  value = text_at (codes "value") d;
  list = list;
  map = map;
}

-- the first fault of an object as a parameter, where these are those of its list and its map
abbrev pub param_fault_with : Data → Option (List ℕ) → Option (List ℕ) → Option (List ℕ)
param_fault_with d list map =
    word_fault kind_named (codes "type") d
    then text_fault (codes "key") d
    then text_fault (codes "value") d
    then list
    then map

unfoldable mutual
  -- the parameter that a value stands for
  pub as_param : Data → WrittenParam
  as_param null = param_with null [] []
  as_param (boolean b) = param_with (boolean b) [] []
  as_param (number n) = param_with (number n) [] []
  as_param (string s) = param_with (string s) [] []
  as_param (array ds) = param_with (array ds) [] []
  as_param (object ms) =
      param_with (object ms) (member_params (codes "list") ms) (member_params (codes "map") ms)

  -- the parameters that a value stands for, or none
  pub as_params : Data → List WrittenParam
  as_params null = []
  as_params (boolean b) = []
  as_params (number n) = []
  as_params (string s) = []
  as_params (array ds) = item_params ds
  as_params (object ms) = []

  -- the parameters that items stand for
  pub item_params : Items → List WrittenParam
  item_params no_items = []
  item_params (item d ds) = as_param d ∷ item_params ds

  -- the parameters that the member with this key stands for, or none
  pub member_params : List ℕ → Members → List WrittenParam
  member_params key no_members = []
  member_params key (member k d ms) =
      match_ordering (slice_cmp nat_cmp key k) (member_params key ms) (as_params d)
      (member_params key ms)

unfoldable mutual
  -- the first fault of a value as a parameter
  pub not_param : Data → Option (List ℕ)
  not_param null = Some []
  not_param (boolean b) = Some []
  not_param (number n) = Some []
  not_param (string s) = Some []
  not_param (array ds) = Some []
  not_param (object ms) =
      param_fault_with (object ms) (member_params_fault (codes "list") ms)
      (member_params_fault (codes "map") ms)

  -- the first fault of a value as a list of parameters
  pub not_params : Data → Option (List ℕ)
  not_params null = Some []
  not_params (boolean b) = Some []
  not_params (number n) = Some []
  not_params (string s) = Some []
  not_params (array ds) = item_params_fault 0 ds
  not_params (object ms) = Some []

  -- the first fault of items as parameters, the first of which stands at this place
  pub item_params_fault : ℕ → Items → Option (List ℕ)
  item_params_fault place no_items = None
  item_params_fault place (item d ds) =
      option_map (in_index place) (not_param d) then item_params_fault (place + 1) ds

  -- the first fault of the member with this key as a list of parameters
  pub member_params_fault : List ℕ → Members → Option (List ℕ)
  member_params_fault key no_members = None
  member_params_fault key (member k d ms) =
      match_ordering (slice_cmp nat_cmp key k) (member_params_fault key ms)
      (option_map (in_key key) (not_params d)) (member_params_fault key ms)

-- the first fault of the parameters at a key of a parameter
unfoldable pub nested_fault : List ℕ → Data → Option (List ℕ)
nested_fault = optional not_params

-- the parameters at a key of a parameter, or none
unfoldable pub nested_at : List ℕ → Data → List WrittenParam
nested_at key d = option_map_or as_params (get key d) []

-- a parameter is read by its fields: its list and its map are lists of parameters, read alike
pub record IsReadByFields (d : Data) : Type 0 where
  pub fault : not_param d
      ≡ (not_object d
      then param_fault_with d (list_fault not_param (codes "list") d)
      (list_fault not_param (codes "map") d))
  pub value : as_param d
      ≡ param_with d (list_at as_param (codes "list") d) (list_at as_param (codes "map") d)
