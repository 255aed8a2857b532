-- The fields of a variable, and the rows of a table.
use Rattle.std.specs.Prelude.{ℕ, List, [], Bool, true, false, Option, Some, None, codes}
use Rattle.std.specs.Prelude.{if◌then◌else◌, unwrap_or}
use Rattle.std.specs.Option.{option_map_or, option_and_then}
use Rattle.std.specs.Str.{bytes_eq}
use Rattle.gtm_data.specs.Paths.{member_of}
use Rattle.gtm_data.specs.TextOf.{text_of}
use Rattle.gtm_data.specs.Tree.{Tree, undefined, list, Trees, end, item}

-- a field, Undefined where it is absent
abbrev pub field : List ℕ → Tree → Tree
field key fields = unwrap_or (member_of key fields) undefined

-- the text of a field, empty where it is absent
abbrev pub text_field : List ℕ → Tree → List ℕ
text_field key fields = option_map_or text_of (member_of key fields) []

-- a flag has the text `true`
abbrev pub is_set : List ℕ → Tree → Bool
is_set key fields = bytes_eq (text_field key fields) (codes "true")

-- what stands for a value that is missing
abbrev pub default_of : Tree → Tree
default_of fields =
    if is_set (codes "setDefaultValue") fields then field (codes "defaultValue") fields
    else undefined

abbrev pub is_undefined : Tree → Bool
is_undefined undefined = true
is_undefined _ = false

-- a value, or what stands for it where it is Undefined
abbrev pub or_default : Tree → Tree → Tree
or_default fields value = if is_undefined value then default_of fields else value

-- the items of a List; another value has none
abbrev pub items_in : Tree → Trees
items_in (list ts) = ts
items_in _ = end

-- the rows of the table
abbrev pub rows_of : Tree → Trees
rows_of fields = items_in (field (codes "map") fields)

-- the value of the first row with a key whose text passes the test; it may be Undefined
abbrev pub first_row : (List ℕ → Bool) → Trees → Option Tree
first_row passes end = None
first_row passes (item row rows) =
    if option_map_or (λ key. passes (text_of key)) (member_of (codes "key") row) false
    then Some (field (codes "value") row)
    else first_row passes rows

-- the text of the input; an Undefined input has none
abbrev pub input_of : Tree → Option (List ℕ)
input_of fields =
    if is_undefined (field (codes "input") fields) then None
    else Some (text_of (field (codes "input") fields))

-- the value of the first row whose key's text goes with the input's
abbrev pub found_row : (List ℕ → List ℕ → Bool) → Tree → Option Tree
found_row goes_with fields =
    option_and_then (λ input. first_row (λ key. goes_with key input) (rows_of fields))
    (input_of fields)

-- the value of a table: that of the row which is found, even an Undefined one, or else the default
abbrev pub looked_up : (List ℕ → List ℕ → Bool) → Tree → Tree
looked_up goes_with fields = unwrap_or (found_row goes_with fields) (default_of fields)
