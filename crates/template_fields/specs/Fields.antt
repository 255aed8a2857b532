-- The fields of a template, and those of its parameters that are resolved.
use Rattle.std.specs.Prelude.{ℕ, ◌+◌, ◌==◌, ◌||◌, if◌then◌else◌, List, [], ◌∷◌, ◌++◌, map, Bool}
use Rattle.std.specs.Prelude.{false, Option, Some, None, Result, Ok, Err, codes}
use Rattle.std.specs.Str.{bytes_eq}
use Rattle.export_model.specs.declared.templates.FieldName.{FieldName}
use Rattle.gtm_data.specs.Paths.{member}
use Rattle.gtm_data.specs.Tree.{Tree, list, object, Trees, end, item, Entries, none, entry}
use Rattle.text_places.specs.Places.{place_of}
use Rattle.template_fields.specs.Forms.{is_tag, is_group, text_at, are_fields}
use Rattle.template_fields.specs.declared.fields.FieldsEnd.{FieldsEnd}
use Rattle.template_fields.specs.declared.fields.FieldsEnd.TheVariants.{Info, Fields}

abbrev pub is_table : List ℕ → Bool
is_table kind = bytes_eq kind (codes "SIMPLE_TABLE") || bytes_eq kind (codes "PARAM_TABLE")

-- the field that an object is, but for groups and labels
abbrev pub own_field : Option (List ℕ) → Option (List ℕ) → List FieldName
own_field None title = []
own_field (Some kind) None = []
own_field (Some kind) (Some title) =
    if is_group kind then [] else (record { name = title; table = is_table kind }) ∷ []

-- the fields of a list of objects: each with those below it directly behind it
abbrev mutual
  pub fields_below : Trees → List FieldName
  fields_below end = []
  fields_below (item t ts) = fields_at t ++ fields_below ts

  -- an object's own, then those of its parameters, then those of its radio items
  pub fields_at : Tree → List FieldName
  fields_at (object es) =
      own_field (text_at (codes "type") es) (text_at (codes "name") es)
      ++ (sub_fields es ++ radio_fields es)
  fields_at _ = []

  pub sub_fields : Entries → List FieldName
  sub_fields none = []
  sub_fields (entry key t es) =
      if bytes_eq key (codes "subParams") then list_fields t else sub_fields es

  pub list_fields : Tree → List FieldName
  list_fields (list ts) = fields_below ts
  list_fields _ = []

  pub radio_fields : Entries → List FieldName
  radio_fields none = []
  radio_fields (entry key t es) =
      if bytes_eq key (codes "radioItems") then radio_list_fields t else radio_fields es

  pub radio_list_fields : Tree → List FieldName
  radio_list_fields (list ts) = radios_fields ts
  radio_list_fields _ = []

  pub radios_fields : Trees → List FieldName
  radios_fields end = []
  radios_fields (item t ts) = radio_item_fields t ++ radios_fields ts

  pub radio_item_fields : Tree → List FieldName
  radio_item_fields (object es) = sub_fields es
  radio_item_fields _ = []

abbrev pub names_of : List FieldName → List (List ℕ)
names_of fields = map (λ f. f.name) fields

abbrev pub is_place : ℕ → Option ℕ → Bool
is_place at None = false
is_place at (Some place) = place == at

-- the fields that stand at the first place of their name; the first stands at this place
abbrev pub first_fields : List (List ℕ) → ℕ → List FieldName → List FieldName
first_fields names at [] = []
first_fields names at (f ∷ fs) =
    if is_place at (place_of f.name names) then f ∷ first_fields names (at + 1) fs
    else first_fields names (at + 1) fs

-- of two fields with one name the first
abbrev pub distinct_fields : List FieldName → List FieldName
distinct_fields fields = first_fields (names_of fields) 0 fields

-- the fields of these objects, where they have the form
abbrev pub listed_fields : Trees → Option (List FieldName)
listed_fields ts = if are_fields ts then Some (distinct_fields (fields_below ts)) else None

-- the fields of a list of parameters, where it has the form of one
abbrev pub fields_in : Tree → Option (List FieldName)
fields_in (list ts) = listed_fields ts
fields_in _ = None

abbrev pub by_fields : Bool → Option (List FieldName) → Result (Bool × List FieldName) FieldsEnd
by_fields tag None = Err Fields
by_fields tag (Some fields) = Ok (tag, fields)

abbrev pub by_tag : Option Bool → Tree → Result (Bool × List FieldName) FieldsEnd
by_tag None parameters = Err Info
by_tag (Some tag) parameters = by_fields tag (fields_in parameters)

-- what is read of INFO and the parameters
abbrev pub fields_read : Tree → Tree → Result (Bool × List FieldName) FieldsEnd
fields_read info parameters = by_tag (is_tag info) parameters

-- a member, where it is there, before others
abbrev pub put_member : List ℕ → Option Tree → List (List ℕ × Tree) → List (List ℕ × Tree)
put_member name None rest = rest
put_member name (Some t) rest = (name, t) ∷ rest

-- the members of these names, in the order of the fields, each once
abbrev pub chosen : List (List ℕ) → ℕ → List FieldName → Entries → List (List ℕ × Tree)
chosen names at [] es = []
chosen names at (f ∷ fs) es =
    if is_place at (place_of f.name names)
    then put_member f.name (member f.name es) (chosen names (at + 1) fs es)
    else chosen names (at + 1) fs es

-- the resolved members whose keys are fields, in the order of the fields
abbrev pub fields_of : List FieldName → Tree → List (List ℕ × Tree)
fields_of fields (object es) = chosen (names_of fields) 0 fields es
fields_of fields _ = []
