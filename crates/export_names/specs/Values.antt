-- What is looked up in written parameters.
use Rattle.std.specs.Prelude.{ℕ, List, Bool, true, false, Option, find, map}
use Rattle.std.specs.Str.{bytes_eq}
use Rattle.export_fields.specs.declared.params.ParamKind.{ParamKind}
use Rattle.export_fields.specs.declared.params.ParamKind.TheVariants as kinds
use Rattle.export_fields.specs.declared.params.WrittenParam.{WrittenParam, out-WrittenParam}

-- the text of a parameter
abbrev pub value_of : WrittenParam → List ℕ
value_of param = (out-WrittenParam param).value

-- the texts of parameters, in order
abbrev pub values_of : List WrittenParam → List (List ℕ)
values_of params = map value_of params

-- a parameter has this key
abbrev pub has_key : List ℕ → WrittenParam → Bool
has_key key param = bytes_eq (out-WrittenParam param).key key

-- the first parameter with this key
abbrev pub first_with : List ℕ → List WrittenParam → Option WrittenParam
first_with key params = find (has_key key) params

-- a kind is that of texts
abbrev pub is_template : ParamKind → Bool
is_template kinds.Template = true
is_template kinds.Integer = false
is_template kinds.Boolean = false
is_template kinds.List = false
is_template kinds.Map = false
is_template kinds.TriggerReference = false
is_template kinds.TagReference = false

-- a kind is that of lists
abbrev pub is_list : ParamKind → Bool
is_list kinds.Template = false
is_list kinds.Integer = false
is_list kinds.Boolean = false
is_list kinds.List = true
is_list kinds.Map = false
is_list kinds.TriggerReference = false
is_list kinds.TagReference = false
