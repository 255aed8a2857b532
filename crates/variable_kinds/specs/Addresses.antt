-- Parts of addresses, as variables ask for them.
use Rattle.std.specs.Prelude.{ℕ, List, [], ◌∷◌, false, Option, Some, None, codes, unwrap_or}
use Rattle.std.specs.Prelude.{option_map}
use Rattle.std.specs.Option.{option_map_or}
use Rattle.address_parts.specs.Parts.{without_fragment, protocol_of, host_of, port_of, path_of}
use Rattle.address_parts.specs.Parts.{extension_of, query_of, fragment_of}
use Rattle.address_parts.specs.Query.{query_value_of}
use Rattle.folded_words.specs.Words.{folded, among}
use Rattle.gtm_base.specs.declared.address.Address.{Address}
use Rattle.gtm_data.specs.Paths.{member_of}
use Rattle.gtm_data.specs.TextOf.{text_of}
use Rattle.gtm_data.specs.Tree.{Tree, undefined, text}
use Rattle.variable_kinds.specs.declared.components.Component.{Component}
use Rattle.variable_kinds.specs.declared.components.Component.TheVariants.{Url, Protocol, Host}
use Rattle.variable_kinds.specs.declared.components.Component.TheVariants.{Port, Path, Query}
use Rattle.variable_kinds.specs.declared.components.Component.TheVariants.{Fragment, Extension}
use Rattle.variable_kinds.specs.declared.components.Wanted.{Wanted}
use Rattle.variable_kinds.specs.Ends.{address_in}
use Rattle.variable_kinds.specs.Fields.{is_set}

-- the parts of an address, by their words
abbrev pub component_words : List (List ℕ × Component)
component_words =
    (codes "url", Url)
    ∷ (codes "protocol", Protocol)
    ∷ (codes "host", Host)
    ∷ (codes "port", Port)
    ∷ (codes "path", Path)
    ∷ (codes "query", Query)
    ∷ (codes "fragment", Fragment)
    ∷ (codes "extension", Extension)
    ∷ []

-- the part that a word in any case names
abbrev pub component_named : List ℕ → Option Component
component_named word = among component_words (folded word)

-- the part that the fields name; the url where they name none
abbrev pub component_in : Tree → Option Component
component_in fields =
    option_map_or (λ word. component_named (text_of word)) (member_of (codes "component") fields)
    (Some Url)

-- the part that the fields ask for
abbrev pub wanted_in : Tree → Wanted
wanted_in fields = record {
  component = component_in fields;
  strip_www = is_set (codes "stripWww") fields;
  key = option_map text_of (member_of (codes "queryKey") fields);
}

-- a part alone, without more
abbrev pub only : Component → Wanted
only component = record { component = Some component; strip_www = false; key = None }

-- the query, or the first value of a key in it, Undefined where it has none
abbrev pub query_part : Option (List ℕ) → Address → Tree
query_part None address = text (query_of address)
query_part (Some key) address = option_map_or text (query_value_of key address) undefined

-- a part of an address, which was given as this text
abbrev pub component_of : Component → Wanted → List ℕ → Address → Tree
component_of Url wanted given address = text (without_fragment given)
component_of Protocol wanted given address = text (protocol_of address)
component_of Host wanted given address = text (host_of wanted.strip_www address)
component_of Port wanted given address = text (port_of address)
component_of Path wanted given address = text (path_of address)
component_of Query wanted given address = query_part wanted.key address
component_of Fragment wanted given address = text (fragment_of address)
component_of Extension wanted given address = text (extension_of address)

-- the wanted part; Undefined where it is none that an address has
abbrev pub part : Wanted → List ℕ → Address → Tree
part wanted given address =
    option_map_or (λ component. component_of component wanted given address) wanted.component
    undefined

-- the address of which each part is empty
abbrev pub nowhere : Address
nowhere = record {
  href = [];
  scheme = [];
  username = [];
  password = [];
  host = None;
  port = None;
  path = [];
  query = None;
  fragment = None;
}

-- the wanted part of the page's address or the referrer's; of a malformed one all but the url is
-- empty
abbrev pub known_part : Wanted → List ℕ → Option Address → Tree
known_part wanted given address = part wanted given (unwrap_or address nowhere)

-- the wanted part of an address that a variable hands in; Undefined where it is malformed
abbrev pub custom_part : Wanted → List ℕ → Tree
custom_part wanted given = option_map_or (part wanted given) (address_in given) undefined

-- the address that the fields hand in
abbrev pub custom_in : Tree → Option (List ℕ)
custom_in fields = option_map text_of (member_of (codes "customUrlSource") fields)

-- the part that the fields ask for, of the address that they hand in, or else of the known one
abbrev pub address_value : Tree → List ℕ → Option Address → Tree
address_value fields given address =
    option_map_or (custom_part (wanted_in fields)) (custom_in fields)
    (known_part (wanted_in fields) given address)
