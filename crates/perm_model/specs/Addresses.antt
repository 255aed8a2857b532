-- Which addresses a pattern allows.
use Rattle.std.specs.Prelude.{ℕ, ◌==◌, ◌&&◌, if◌then◌else◌, List, [], ◌∷◌, ◌++◌, map, Bool, true}
use Rattle.std.specs.Prelude.{false, Option, Some, None, codes, decimal}
use Rattle.std.specs.Char.{to_ascii_lowercase}
use Rattle.std.specs.Str.{bytes_eq}
use Rattle.gtm_base.specs.declared.address.Address.{Address}
use Rattle.perm_model.specs.declared.grants.AddressPattern.{AddressPattern}
use Rattle.perm_model.specs.declared.grants.AddressPattern.TheVariants.{Any, Pattern}
use Rattle.perm_model.specs.Texts.{is_nothing, fits, ends_behind_some}

-- a text that may be absent
abbrev pub text_or_nothing : Option (List ℕ) → List ℕ
text_or_nothing None = []
text_or_nothing (Some text) = text

-- a colon and the port, where there is one
abbrev pub port_text : Option ℕ → List ℕ
port_text None = []
port_text (Some port) = 58 ∷ decimal port

-- a question mark and the query, where there is one
abbrev pub query_text : Option (List ℕ) → List ℕ
query_text None = []
query_text (Some query) = 63 ∷ query

-- the host, with the port where there is one
abbrev pub authority_of : Address → List ℕ
authority_of a = text_or_nothing a.host ++ port_text a.port

-- the path, with the query where there is one
abbrev pub path_of : Address → List ℕ
path_of a = a.path ++ query_text a.query

-- from the dot on, where a dot stands first
abbrev pub from_dot : List ℕ → Option (List ℕ)
from_dot [] = None
from_dot (c ∷ cs) = if c == 46 then Some (c ∷ cs) else None

-- the `.host` of the pattern `*.host`
abbrev pub behind_star : List ℕ → Option (List ℕ)
behind_star [] = None
behind_star (c ∷ cs) = if c == 42 then from_dot cs else None

-- `*.host` ends the authority behind something; any other host is the authority once it is
-- lower-cased
abbrev pub host_fits : Option (List ℕ) → List ℕ → List ℕ → Bool
host_fits None pattern authority = bytes_eq (map to_ascii_lowercase pattern) authority
host_fits (Some end) pattern authority = ends_behind_some end authority

-- `*` is every authority
abbrev pub authority_fits : List ℕ → List ℕ → Bool
authority_fits pattern authority =
    if bytes_eq pattern (codes "*") then true
    else host_fits (behind_star pattern) pattern authority

-- a pattern without a path has every path
abbrev pub path_fits : Option (List ℕ) → List ℕ → Bool
path_fits None path = true
path_fits (Some pattern) path = fits pattern path

-- `https` without a user name
abbrev pub is_secure : Address → Bool
is_secure a = bytes_eq a.scheme (codes "https") && is_nothing a.username

abbrev pub allows_address : AddressPattern → Address → Bool
allows_address Any a = is_secure a
allows_address (Pattern authority path) a =
    ((is_secure a && is_nothing a.password) && authority_fits authority (authority_of a))
    && path_fits path (path_of a)

-- no malformed address is allowed
abbrev pub allows_maybe : AddressPattern → Option Address → Bool
allows_maybe pattern None = false
allows_maybe pattern (Some a) = allows_address pattern a
