-- The parts of an address.
use Rattle.std.specs.Prelude.{ℕ, List, [], Bool, unwrap_or, codes, decimal}
use Rattle.std.specs.Prelude.{if◌then◌else◌}
use Rattle.std.specs.Option.{option_map_or}
use Rattle.std.specs.Str.{bytes_eq}
use Rattle.gtm_base.specs.declared.address.Address.{Address}
use Rattle.address_parts.specs.Fronts.{before, behind_front, behind_last}

-- a url, up to its first `#`
abbrev pub without_fragment : List ℕ → List ℕ
without_fragment url = before 35 url

-- the scheme, without its `:`
abbrev pub protocol_of : Address → List ℕ
protocol_of address = address.scheme

-- a host without a leading `www.`
abbrev pub without_www : List ℕ → List ℕ
without_www host = unwrap_or (behind_front (codes "www.") host) host

-- the host, and the empty text where there is none; without a leading `www.` where that is asked
abbrev pub host_of : Bool → Address → List ℕ
host_of strip address =
    if strip then without_www (unwrap_or address.host []) else unwrap_or address.host []

-- the port that a scheme has where none is written
abbrev pub implied_port : List ℕ → List ℕ
implied_port scheme =
    if bytes_eq scheme (codes "https") then codes "443"
    else if bytes_eq scheme (codes "http") then codes "80"
    else []

-- the digits of the port
abbrev pub port_of : Address → List ℕ
port_of address = option_map_or decimal address.port (implied_port address.scheme)

-- the path
abbrev pub path_of : Address → List ℕ
path_of address = address.path

-- what stands behind the last `/` of a path
abbrev pub last_segment : List ℕ → List ℕ
last_segment path = unwrap_or (behind_last 47 path) path

-- what stands behind the last dot of the last segment of the path, and the empty text where there
-- is no dot
abbrev pub extension_of : Address → List ℕ
extension_of address = unwrap_or (behind_last 46 (last_segment address.path)) []

-- the query, without its `?`
abbrev pub query_of : Address → List ℕ
query_of address = unwrap_or address.query []

-- the fragment, without its `#`
abbrev pub fragment_of : Address → List ℕ
fragment_of address = unwrap_or address.fragment []
