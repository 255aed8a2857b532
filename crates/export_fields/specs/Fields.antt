-- Objects, and their texts and booleans.
use Rattle.std.specs.Prelude.{ℕ, List, [], Bool, false, Option, Some, None, option_map, unwrap_or}
use Rattle.std.specs.Option.{option_map_or}
use Rattle.std.specs.Str.{chars}
use Rattle.serde_json.specs.Data.{Data}
use Rattle.serde_json.specs.Find.{get, as_str, as_bool, as_object}
use Rattle.export_fields.specs.Fault.{in_key, fault_without}

-- the fault of a member that may be absent: there is none, or it is that of its value
abbrev pub optional : (Data → Option (List ℕ)) → List ℕ → Data → Option (List ℕ)
optional fault key d = option_map_or (λ e. option_map (in_key key) (fault e)) (get key d) None

-- the fault of a member that has to be there: without it, it is the object
abbrev pub required : (Data → Option (List ℕ)) → List ℕ → Data → Option (List ℕ)
required fault key d = option_map_or (λ e. option_map (in_key key) (fault e)) (get key d) (Some [])

-- the fault of a value that has to be an object
unfoldable pub not_object : Data → Option (List ℕ)
not_object d = fault_without (as_object d)

-- the fault of a value that has to be a text
abbrev pub not_text : Data → Option (List ℕ)
not_text d = fault_without (as_str d)

-- the text that a value is, or the empty one
abbrev pub as_text : Data → List ℕ
as_text d = option_map_or chars (as_str d) []

-- the fault of a text at a key that has to be there
unfoldable pub required_text_fault : List ℕ → Data → Option (List ℕ)
required_text_fault = required not_text

-- the fault of a text at a key
unfoldable pub text_fault : List ℕ → Data → Option (List ℕ)
text_fault = optional not_text

-- the text at a key, or the empty one
unfoldable pub text_at : List ℕ → Data → List ℕ
text_at key d = option_map_or as_text (get key d) []

-- the fault of a value that has to be a boolean
abbrev pub not_flag : Data → Option (List ℕ)
not_flag d = fault_without (as_bool d)

-- the boolean that a value is, or false
abbrev pub as_flag : Data → Bool
as_flag d = unwrap_or (as_bool d) false

-- the fault of a boolean at a key
unfoldable pub flag_fault : List ℕ → Data → Option (List ℕ)
flag_fault = optional not_flag

-- the boolean at a key, or false
unfoldable pub flag_at : List ℕ → Data → Bool
flag_at key d = option_map_or as_flag (get key d) false
