-- Which needs a policy allows, and to which permission a need belongs.
use Rattle.std.specs.Prelude.{ℕ, ◌&&◌, ◌||◌, List, Bool, true, false, Option, Some, None}
use Rattle.std.specs.Prelude.{codes, nat_eq, not}
use Rattle.std.specs.List.{list_any, starts_with, position_from}
use Rattle.std.specs.Str.{bytes_eq}
use Rattle.perm_model.specs.declared.grants.AddressParts.{AddressParts}
use Rattle.perm_model.specs.declared.grants.Grant.{Grant}
use Rattle.perm_model.specs.declared.grants.Grant.TheVariants as grant
use Rattle.perm_model.specs.declared.grants.KeyPattern.{KeyPattern}
use Rattle.perm_model.specs.declared.grants.KeyPattern.TheVariants.{Any, Equal, Prefix}
use Rattle.perm_model.specs.declared.grants.Policy.{Policy}
use Rattle.perm_model.specs.declared.needs.Ask.{Ask}
use Rattle.perm_model.specs.declared.needs.Ask.TheVariants as ask
use Rattle.perm_model.specs.declared.needs.Need.{Need}
use Rattle.perm_model.specs.declared.needs.Need.TheVariants as need
use Rattle.perm_model.specs.declared.needs.Part.{Part}
use Rattle.perm_model.specs.declared.needs.Part.TheVariants.{Protocol, Host, Port, Path, Query}
use Rattle.perm_model.specs.declared.needs.Part.TheVariants.{Fragment, Extension}
use Rattle.perm_model.specs.declared.permissions.Permission.{Permission}
use Rattle.perm_model.specs.declared.permissions.Permission.TheVariants as permission
use Rattle.perm_model.specs.Addresses.{allows_maybe}

-- the key is allowed
abbrev pub allows_key : KeyPattern → List ℕ → Bool
allows_key Any key = true
allows_key (Equal text) key = bytes_eq text key
allows_key (Prefix text) key = starts_with nat_eq key text

-- `*` is every text
abbrev pub allows_text : List ℕ → List ℕ → Bool
allows_text pattern text = bytes_eq pattern (codes "*") || bytes_eq pattern text

abbrev pub is_same_part : Part → Part → Bool
is_same_part Protocol Protocol = true
is_same_part Host Host = true
is_same_part Port Port = true
is_same_part Path Path = true
is_same_part Query Query = true
is_same_part Fragment Fragment = true
is_same_part Extension Extension = true
is_same_part _ _ = false

-- this part of the address
abbrev pub allows_part : AddressParts → Part → Bool
allows_part parts part = parts.any_part || list_any (is_same_part part) parts.parts

-- what the query adds: the whole of it is wanted where it is the part
abbrev pub allows_query_of : AddressParts → Part → Bool
allows_query_of parts Query = parts.any_query
allows_query_of parts _ = true

abbrev pub allows_ask : AddressParts → Ask → Bool
allows_ask parts ask.Whole = parts.any_part
allows_ask parts (ask.Part part) = allows_part parts part && allows_query_of parts part
allows_ask parts (ask.Key key) =
    allows_part parts Query && (parts.any_query || list_any (λ k. bytes_eq k key) parts.keys)

-- what the grant allows, row by row
abbrev pub allows : Grant → Need → Bool
allows (grant.Consent kind read write) (need.ConsentRead k) = read && bytes_eq kind k
allows (grant.Consent kind read write) (need.ConsentWrite k) = write && bytes_eq kind k
allows (grant.Global key read write execute) (need.GlobalRead k) = read && bytes_eq key k
allows (grant.Global key read write execute) (need.GlobalWrite k) = write && bytes_eq key k
allows (grant.Global key read write execute) (need.GlobalExecute k) = execute && bytes_eq key k
allows (grant.Global key read write execute) (need.GlobalExists k) = write && bytes_eq key k
allows (grant.Local key read write) (need.LocalRead k) = read && bytes_eq key k
allows (grant.Local key read write) (need.LocalWrite k) = write && bytes_eq key k
allows grant.TemplateStorage need.TemplateStorage = true
allows grant.AnyCookie (need.CookieRead n) = true
allows (grant.Cookie name) (need.CookieRead n) = bytes_eq name n
allows (grant.CookieWrite name domain path) (need.CookieWrite n d p) =
    (allows_text name n && allows_text domain d) && allows_text path p
allows (grant.Url parts) (need.Url what) = allows_ask parts what
allows (grant.Referrer parts) (need.Referrer what) = allows_ask parts what
allows (grant.SendPixel pattern) (need.SendPixel address) = allows_maybe pattern address
allows (grant.InjectScript pattern) (need.InjectScript address) = allows_maybe pattern address
allows (grant.InjectHiddenIframe pattern) (need.InjectHiddenIframe address) =
    allows_maybe pattern address
allows grant.Logging need.Logging = true
allows (grant.LayerRead pattern) (need.LayerRead key) = allows_key pattern key
allows (grant.LayerWrite pattern) (need.LayerWrite key) = allows_key pattern key
allows grant.CharacterSet need.CharacterSet = true
allows grant.ContainerData need.ContainerData = true
allows grant.EventMetadata need.EventMetadata = true
allows grant.Title need.Title = true
allows _ _ = false

-- time and random words are allowed by every policy
abbrev pub is_free : Need → Bool
is_free need.Time = true
is_free need.Random = true
is_free _ = false

-- some grant of the list allows it
abbrev pub some_allows : List Grant → Need → Bool
some_allows grants wanted = list_any (λ g. allows g wanted) grants

abbrev pub is_allowed : Policy → Need → Bool
is_allowed policy wanted = is_free wanted || some_allows policy.grants wanted

-- the place of the first need that is not allowed
abbrev pub first_denied : Policy → List Need → Option ℕ
first_denied policy needs = position_from (λ wanted. not (is_allowed policy wanted)) 0 needs

-- the permission of which a need is a part
abbrev pub permission_of : Need → Option Permission
permission_of (need.ConsentRead k) = Some permission.AccessConsent
permission_of (need.ConsentWrite k) = Some permission.AccessConsent
permission_of (need.GlobalRead k) = Some permission.AccessGlobals
permission_of (need.GlobalWrite k) = Some permission.AccessGlobals
permission_of (need.GlobalExecute k) = Some permission.AccessGlobals
permission_of (need.GlobalExists k) = Some permission.AccessGlobals
permission_of (need.LocalRead k) = Some permission.AccessLocalStorage
permission_of (need.LocalWrite k) = Some permission.AccessLocalStorage
permission_of need.TemplateStorage = Some permission.AccessTemplateStorage
permission_of (need.CookieRead n) = Some permission.GetCookies
permission_of (need.CookieWrite n d p) = Some permission.SetCookies
permission_of (need.Url what) = Some permission.GetUrl
permission_of (need.Referrer what) = Some permission.GetReferrer
permission_of (need.SendPixel address) = Some permission.SendPixel
permission_of (need.InjectScript address) = Some permission.InjectScript
permission_of (need.InjectHiddenIframe address) = Some permission.InjectHiddenIframe
permission_of need.Logging = Some permission.Logging
permission_of (need.LayerRead key) = Some permission.ReadDataLayer
permission_of (need.LayerWrite key) = Some permission.WriteDataLayer
permission_of need.CharacterSet = Some permission.ReadCharacterSet
permission_of need.ContainerData = Some permission.ReadContainerData
permission_of need.EventMetadata = Some permission.ReadEventMetadata
permission_of need.Title = Some permission.ReadTitle
permission_of need.Time = None
permission_of need.Random = None
