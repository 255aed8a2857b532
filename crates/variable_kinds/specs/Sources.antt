-- Values from the data layer, the cookies and the globals of a page.
use Rattle.std.specs.Prelude.{ℕ, List, Option, codes, unwrap_or, slice_get, encode_utf8_all}
use Rattle.std.specs.Prelude.{if◌then◌else◌}
use Rattle.std.specs.Option.{option_map_or, option_and_then}
use Rattle.std.specs.Str.{bytes_eq, chars}
use Rattle.std.specs.Str.Lossy.{utf8_lossy}
use Rattle.data_layer.specs.Layer.{LayerState, layer_value}
use Rattle.gtm_base.specs.Keys.{value_of}
use Rattle.gtm_data.specs.Paths.{dotted, walk}
use Rattle.gtm_data.specs.Tree.{Tree, undefined, text}
use Rattle.page_world.specs.Page.{PageState}
use Rattle.percent_encoding.specs.Percent.{percent_decode}
use Rattle.variable_kinds.specs.Fields.{is_set, or_default, text_field}

-- the layer's value of a key in a version, Undefined where there is none
abbrev pub layer_at : LayerState → List ℕ → ℕ → Tree
layer_at layer key version = unwrap_or (layer_value key version layer) undefined

-- the version that the fields ask for
abbrev pub version_in : Tree → ℕ
version_in fields =
    if bytes_eq (text_field (codes "dataLayerVersion") fields) (codes "1") then 1 else 2

-- the layer's value that the fields ask for, or its default
abbrev pub layer_field : LayerState → Tree → Tree
layer_field layer fields =
    or_default fields (layer_at layer (text_field (codes "name") fields) (version_in fields))

-- the first value of a cookie
abbrev pub cookie_at : PageState → List ℕ → Option (List ℕ)
cookie_at page name = option_and_then (λ values. slice_get values 0) (value_of name page.cookies)

-- a text with its `%XX` read; what is then no UTF-8 is replaced
abbrev pub percent_decoded : List ℕ → List ℕ
percent_decoded value = chars (utf8_lossy (percent_decode (encode_utf8_all value)))

-- a cookie's value, decoded where the fields ask for that
abbrev pub decoded_if : Tree → List ℕ → List ℕ
decoded_if fields value =
    if is_set (codes "decodeCookie") fields then percent_decoded value else value

-- the cookie that the fields ask for, Undefined where there is none
abbrev pub cookie_field : PageState → Tree → Tree
cookie_field page fields =
    option_map_or (λ value. text (decoded_if fields value))
    (cookie_at page (text_field (codes "name") fields)) undefined

-- the global variable that the fields ask for, Undefined where there is none
abbrev pub global_field : PageState → Tree → Tree
global_field page fields =
    unwrap_or (walk (dotted (text_field (codes "name") fields)) page.globals) undefined
