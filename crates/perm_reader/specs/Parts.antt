-- What is read of the permissions on addresses.
use Rattle.std.specs.Prelude.{ℕ, List, [], ◌∷◌, ◌++◌, Bool, true, false, Option, Some, None, codes}
use Rattle.gtm_data.specs.Tree.{Tree, Trees, end, item}
use Rattle.perm_model.specs.declared.grants.AddressParts.{AddressParts}
use Rattle.perm_model.specs.declared.needs.Part.{Part}
use Rattle.perm_model.specs.declared.needs.Part.TheVariants.{Protocol, Host, Port, Path, Query}
use Rattle.perm_model.specs.declared.needs.Part.TheVariants.{Fragment, Extension}
use Rattle.perm_reader.specs.Readings.{nothing, plus, warning, warned, word_of, by_word}
use Rattle.perm_reader.specs.Values.{called, text_value, list_value, param_of, flag_of_value}
use Rattle.perm_reader.specs.declared.reading.Reading.{Reading}
use Rattle.perm_reader.specs.declared.reading.Word.{Word}
use Rattle.perm_reader.specs.declared.reading.Word.TheVariants as word

-- the part, where its parameter is true
abbrev pub part_if : Bool → Part → List Part
part_if true named = named ∷ []
part_if false named = []

abbrev pub part_named : List ℕ → Part → Trees → List Part
part_named name named params = part_if (flag_of_value (param_of name params)) named

-- the parts whose parameters are true
abbrev pub parts_named : Trees → List Part
parts_named params =
    ((((((part_named (codes "protocol") Protocol params
    ++ part_named (codes "host") Host params)
    ++ part_named (codes "port") Port params)
    ++ part_named (codes "path") Path params)
    ++ part_named (codes "query") Query params)
    ++ part_named (codes "fragment") Fragment params)
    ++ part_named (codes "extension") Extension params)

abbrev pub is_any : Word → Bool
is_any word.Any = true
is_any word.Specific = false
is_any word.Unknown = false

-- a warning of an unknown word
abbrev pub word_warned : Option Tree → Reading
word_warned said = by_word (word_of said) nothing nothing (warned said)

abbrev pub put_text : Option (List ℕ) → List (List ℕ) → List (List ℕ)
put_text None texts = texts
put_text (Some t) texts = t ∷ texts

-- the texts among the items
abbrev pub texts_in : Trees → List (List ℕ)
texts_in end = []
texts_in (item t ts) = put_text (text_value t) (texts_in ts)

abbrev pub text_warned : Option (List ℕ) → Tree → Reading
text_warned None value = warning (called value)
text_warned (Some t) value = nothing

-- warnings of the items that are no texts
abbrev pub others_warned : Trees → Reading
others_warned end = nothing
others_warned (item t ts) = plus (text_warned (text_value t) t) (others_warned ts)

abbrev pub list_texts : Option Trees → List (List ℕ)
list_texts None = []
list_texts (Some ts) = texts_in ts

abbrev pub list_warned : Option Trees → Tree → Reading
list_warned None value = warning (called value)
list_warned (Some ts) value = others_warned ts

-- the texts of a list, where there is one
abbrev pub keys_in : Option Tree → List (List ℕ)
keys_in None = []
keys_in (Some value) = list_texts (list_value value)

abbrev pub keys_warned : Option Tree → Reading
keys_warned None = nothing
keys_warned (Some value) = list_warned (list_value value) value

-- which parts may be read: the two words, the parts and the keys, each as it is written
abbrev pub parts_in : Trees → AddressParts
parts_in params = record {
  any_part = is_any (word_of (param_of (codes "urlParts") params));
  parts = parts_named params;
  any_query = is_any (word_of (param_of (codes "queriesAllowed") params));
  keys = keys_in (param_of (codes "queryKeys") params);
}

abbrev pub parts_warned : Trees → Reading
parts_warned params =
    plus
    (plus
    (word_warned (param_of (codes "urlParts") params))
    (word_warned (param_of (codes "queriesAllowed") params)))
    (keys_warned (param_of (codes "queryKeys") params))
