-- The values of a key in a query, which is read as a form: `+` is a space, and what is no UTF-8 is
-- replaced.
use Rattle.std.specs.Prelude.{ℕ, List, Bool, Option, map, filter, option_map, encode_utf8_all}
use Rattle.std.specs.List.{slice_get}
use Rattle.std.specs.Str.{bytes_eq, chars}
use Rattle.std.specs.Str.Lossy.{utf8_lossy}
use Rattle.form_urlencoded.specs.Form.{raw_pairs, decode}
use Rattle.gtm_base.specs.declared.address.Address.{Address}
use Rattle.address_parts.specs.Parts.{query_of}

-- the bytes of the text that a name or a value is
abbrev pub decoded : List ℕ → List ℕ
decoded bytes = utf8_lossy (decode bytes)

-- whether the name of a pair is this key
abbrev pub is_named : List ℕ → List ℕ × List ℕ → Bool
is_named key pair = bytes_eq (decoded pair.0) key

-- the values of those pairs that have the key, in order
abbrev pub values_in : List ℕ → List (List ℕ × List ℕ) → List (List ℕ)
values_in key pairs = map (λ pair. decoded pair.1) (filter (is_named key) pairs)

-- the first value of a key in the bytes of a query
abbrev pub first_value : List ℕ → List ℕ → Option (List ℕ)
first_value query key = slice_get (values_in key (raw_pairs query)) 0

-- the first value of a key in the query of an address
abbrev pub query_value_of : List ℕ → Address → Option (List ℕ)
query_value_of key address =
    option_map chars (first_value (encode_utf8_all (query_of address)) (encode_utf8_all key))
