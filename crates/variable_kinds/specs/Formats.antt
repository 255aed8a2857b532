-- How a format changes a value.
use Rattle.std.specs.Prelude.{ℕ, List, map, true, false, Option, if◌then◌else◌}
use Rattle.std.specs.Char.{to_ascii_lowercase, to_ascii_uppercase}
use Rattle.std.specs.Option.{option_map_or}
use Rattle.export_model.specs.declared.params.NameRef.{NameRef}
use Rattle.export_model.specs.declared.params.Param.{Param}
use Rattle.export_model.specs.declared.variables.Format.{Format}
use Rattle.export_model.specs.Params.{value_of}
use Rattle.gtm_data.specs.Tree.{Tree, undefined, null, bool, text}
use Rattle.variable_kinds.specs.Resolved.{resolved}

-- a text in another case
abbrev pub cased_text : Format → List ℕ → List ℕ
cased_text format characters =
    if format.lower then map to_ascii_lowercase characters
    else if format.upper then map to_ascii_uppercase characters
    else characters

-- a value in another case, where it is a text
abbrev pub cased : Format → Tree → Tree
cased format (text characters) = text (cased_text format characters)
cased format value = value

-- the value of a parameter, or another one where there is none
abbrev pub given_or : (NameRef → Tree) → Option Param → Tree → Tree
given_or values param value = option_map_or (λ p. resolved values (value_of p.value)) param value

-- what stands for null, undefined, true and false
abbrev pub converted : (NameRef → Tree) → Format → Tree → Tree
converted values format null = given_or values format.null null
converted values format undefined = given_or values format.undefined undefined
converted values format (bool true) = given_or values format.yes (bool true)
converted values format (bool false) = given_or values format.no (bool false)
converted values format value = value

-- a value as its format changes it: its case, then what stands for it
abbrev pub formatted : (NameRef → Tree) → Format → Tree → Tree
formatted values format value = converted values format (cased format value)
