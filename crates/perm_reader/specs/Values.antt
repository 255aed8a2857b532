-- The values of a permission's parameters.
use Rattle.std.specs.Prelude.{ℕ, if◌then◌else◌, List, Bool, true, false, Option, Some, None}
use Rattle.std.specs.Prelude.{ℤ, pos, codes}
use Rattle.std.specs.Ordering.{int_eq}
use Rattle.std.specs.Str.{bytes_eq}
use Rattle.gtm_data.specs.JsonText.{json_text}
use Rattle.gtm_data.specs.Paths.{member_of}
use Rattle.gtm_data.specs.Tree.{Tree, whole, list, bool, Trees, end, item, text_in}

-- this number is there
abbrev pub is_number : ℤ → Option Tree → Bool
is_number wanted (Some (whole number)) = int_eq number wanted
is_number wanted _ = false

-- the value says that it is of this type
abbrev pub has_type : ℤ → Tree → Bool
has_type wanted value = is_number wanted (member_of (codes "type") value)

abbrev pub text_found : Option Tree → Option (List ℕ)
text_found None = None
text_found (Some t) = text_in t

abbrev pub list_in : Tree → Option Trees
list_in (list ts) = Some ts
list_in _ = None

abbrev pub list_found : Option Tree → Option Trees
list_found None = None
list_found (Some t) = list_in t

abbrev pub is_true_found : Option Tree → Bool
is_true_found (Some (bool b)) = b
is_true_found _ = false

-- the text of a value of type 1
abbrev pub text_value : Tree → Option (List ℕ)
text_value value =
    if has_type (pos 1) value then text_found (member_of (codes "string") value) else None

-- the items of a value of type 2
abbrev pub list_value : Tree → Option Trees
list_value value =
    if has_type (pos 2) value then list_found (member_of (codes "listItem") value) else None

-- a value of type 8 that is true
abbrev pub flag_value : Tree → Bool
flag_value value =
    if has_type (pos 8) value then is_true_found (member_of (codes "boolean") value) else false

-- what a value is called in a warning: its text, or else itself as JSON
abbrev pub text_or_json : Option (List ℕ) → Tree → List ℕ
text_or_json (Some found) value = found
text_or_json None value = json_text value

abbrev pub called : Tree → List ℕ
called value = text_or_json (text_value value) value

-- the value has this text
abbrev pub is_text_found : List ℕ → Option (List ℕ) → Bool
is_text_found wanted (Some found) = bytes_eq found wanted
is_text_found wanted None = false

-- the keys and the values of a row
pub record Columns : Type 0 where
  pub keys : Trees
  pub values : Trees

-- there are as many of these as of those
abbrev pub same_count : Trees → Trees → Bool
same_count end end = true
same_count (item t ts) (item u us) = same_count ts us
same_count _ _ = false

abbrev pub columns_of : Option Trees → Option Trees → Option Columns
columns_of (Some ks) (Some vs) =
    if same_count ks vs then Some (record { keys = ks; values = vs }) else None
columns_of _ _ = None

-- the columns of a value of type 3
abbrev pub row_value : Tree → Option Columns
row_value value =
    if has_type (pos 3) value then
    columns_of
    (list_found (member_of (codes "mapKey") value))
    (list_found (member_of (codes "mapValue") value))
    else None

-- the first value whose key has this text
abbrev pub column_in : List ℕ → Trees → Trees → Option Tree
column_in name (item k ks) (item v vs) =
    if is_text_found name (text_value k) then Some v else column_in name ks vs
column_in name _ _ = None

abbrev pub column : List ℕ → Columns → Option Tree
column name row = column_in name row.keys row.values

abbrev pub text_of_value : Option Tree → Option (List ℕ)
text_of_value None = None
text_of_value (Some value) = text_value value

abbrev pub flag_of_value : Option Tree → Bool
flag_of_value None = false
flag_of_value (Some value) = flag_value value

-- the value of the first parameter of this key
abbrev pub param_of : List ℕ → Trees → Option Tree
param_of name end = None
param_of name (item p ps) =
    if is_text_found name (text_found (member_of (codes "key") p))
    then member_of (codes "value") p else param_of name ps
