-- The policy of a whole list of permissions.
use Rattle.std.specs.Prelude.{ℕ, ◌&&◌, List, Bool, true, false, Option, Some, None, codes, is_some}
use Rattle.std.specs.Prelude.{encode_utf8_all}
use Rattle.gtm_data.specs.Paths.{member_of}
use Rattle.gtm_data.specs.Tree.{Tree, list, Trees, end, item}
use Rattle.perm_model.specs.Names.{permission_named}
use Rattle.perm_model.specs.declared.grants.AddressParts.{AddressParts}
use Rattle.perm_model.specs.declared.grants.AddressPattern.TheVariants as address
use Rattle.perm_model.specs.declared.grants.Grant.{Grant}
use Rattle.perm_model.specs.declared.grants.Grant.TheVariants as grant
use Rattle.perm_model.specs.declared.grants.KeyPattern.TheVariants as key
use Rattle.perm_model.specs.declared.permissions.Permission.{Permission}
use Rattle.perm_model.specs.declared.permissions.Permission.TheVariants as permission
use Rattle.perm_reader.specs.Parts.{parts_in, parts_warned}
use Rattle.perm_reader.specs.Readings.{nothing, plus, granting, warning, items_read, worded}
use Rattle.perm_reader.specs.Values.{param_of, text_found, list_found}
use Rattle.perm_reader.specs.declared.items.ItemKind.TheVariants as kind
use Rattle.perm_reader.specs.declared.reading.Reading.{Reading}

abbrev pub member_found : List ℕ → Option Tree → Option Tree
member_found name None = None
member_found name (Some t) = member_of name t

-- the name of an entry's permission
abbrev pub name_of : Tree → Option (List ℕ)
name_of t =
    text_found
    (member_found (codes "publicId")
    (member_found (codes "key") (member_of (codes "instance") t)))

-- the parameters of an entry, where they are there
abbrev pub params_found : Tree → Option Tree
params_found t = member_found (codes "param") (member_of (codes "instance") t)

-- a parameter has a text as its key
abbrev pub are_params : Trees → Bool
are_params end = true
are_params (item p ps) = is_some (text_found (member_of (codes "key") p)) && are_params ps

abbrev pub are_params_in : Option Tree → Bool
are_params_in None = true
are_params_in (Some (list ps)) = are_params ps
are_params_in (Some _) = false

-- an entry has a name, and a list of parameters where it has any
abbrev pub is_entry : Tree → Bool
is_entry t = is_some (name_of t) && are_params_in (params_found t)

abbrev pub are_entries : Trees → Bool
are_entries end = true
are_entries (item t ts) = is_entry t && are_entries ts

-- a list of entries
abbrev pub are_permissions : Tree → Bool
are_permissions (list ts) = are_entries ts
are_permissions _ = false

abbrev pub or_end : Option Trees → Trees
or_end None = end
or_end (Some ps) = ps

-- the parameters of an entry
abbrev pub params_of : Tree → Trees
params_of t = or_end (list_found (params_found t))

-- permissions on addresses are one grant
abbrev pub parts_read : (AddressParts → Grant) → Trees → Reading
parts_read f params = plus (parts_warned params) (granting (f (parts_in params)))

-- what is read of a permission's parameters, permission by permission
abbrev pub permission_read : Permission → Trees → Reading
permission_read permission.AccessConsent ps =
    items_read kind.Consent (param_of (codes "consentTypes") ps)
permission_read permission.AccessGlobals ps = items_read kind.Global (param_of (codes "keys") ps)
permission_read permission.AccessLocalStorage ps =
    items_read kind.Local (param_of (codes "keys") ps)
permission_read permission.AccessTemplateStorage ps = granting grant.TemplateStorage
permission_read permission.GetCookies ps =
    worded grant.AnyCookie kind.Cookie (param_of (codes "cookieAccess") ps)
    (param_of (codes "cookieNames") ps)
permission_read permission.SetCookies ps =
    items_read kind.CookieWrite (param_of (codes "allowedCookies") ps)
permission_read permission.GetUrl ps = parts_read (λ p. grant.Url p) ps
permission_read permission.GetReferrer ps = parts_read (λ p. grant.Referrer p) ps
permission_read permission.SendPixel ps =
    worded (grant.SendPixel address.Any) kind.Pixel (param_of (codes "allowedUrls") ps)
    (param_of (codes "urls") ps)
permission_read permission.InjectScript ps = items_read kind.Script (param_of (codes "urls") ps)
permission_read permission.InjectHiddenIframe ps =
    items_read kind.Frame (param_of (codes "urls") ps)
permission_read permission.Logging ps = granting grant.Logging
permission_read permission.ReadDataLayer ps =
    worded (grant.LayerRead key.Any) kind.LayerRead (param_of (codes "allowedKeys") ps)
    (param_of (codes "keyPatterns") ps)
permission_read permission.WriteDataLayer ps =
    items_read kind.LayerWrite (param_of (codes "keyPatterns") ps)
permission_read permission.ReadCharacterSet ps = granting grant.CharacterSet
permission_read permission.ReadContainerData ps = granting grant.ContainerData
permission_read permission.ReadEventMetadata ps = granting grant.EventMetadata
permission_read permission.ReadTitle ps = granting grant.Title

abbrev pub known_read : Option Permission → List ℕ → Trees → Reading
known_read None name ps = warning name
known_read (Some p) name ps = permission_read p ps

abbrev pub named_read : Option (List ℕ) → Trees → Reading
named_read None ps = nothing
named_read (Some name) ps = known_read (permission_named (encode_utf8_all name)) name ps

-- what is read of an entry: a permission that is not known is warned of by its name
abbrev pub entry_read : Tree → Reading
entry_read t = named_read (name_of t) (params_of t)

-- the entries in order
abbrev pub entries_read : Trees → Reading
entries_read end = nothing
entries_read (item t ts) = plus (entry_read t) (entries_read ts)

abbrev pub policy_read : Tree → Reading
policy_read (list ts) = entries_read ts
policy_read _ = nothing
