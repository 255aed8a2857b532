-- The words for the permissions.
use Rattle.std.specs.Prelude.{ℕ, List, Option, codes}
use Rattle.std.specs.List.{find}
use Rattle.std.specs.Str.{bytes_eq}
use Rattle.perm_model.specs.declared.permissions.Permission.{Permission}
use Rattle.perm_model.specs.declared.permissions.Permission.TheVariants.{AccessConsent}
use Rattle.perm_model.specs.declared.permissions.Permission.TheVariants.{AccessGlobals}
use Rattle.perm_model.specs.declared.permissions.Permission.TheVariants.{AccessLocalStorage}
use Rattle.perm_model.specs.declared.permissions.Permission.TheVariants.{AccessTemplateStorage}
use Rattle.perm_model.specs.declared.permissions.Permission.TheVariants.{GetCookies, SetCookies}
use Rattle.perm_model.specs.declared.permissions.Permission.TheVariants.{GetUrl, GetReferrer}
use Rattle.perm_model.specs.declared.permissions.Permission.TheVariants.{SendPixel, InjectScript}
use Rattle.perm_model.specs.declared.permissions.Permission.TheVariants.{InjectHiddenIframe}
use Rattle.perm_model.specs.declared.permissions.Permission.TheVariants.{Logging, ReadDataLayer}
use Rattle.perm_model.specs.declared.permissions.Permission.TheVariants.{WriteDataLayer}
use Rattle.perm_model.specs.declared.permissions.Permission.TheVariants.{ReadCharacterSet}
use Rattle.perm_model.specs.declared.permissions.Permission.TheVariants.{ReadContainerData}
use Rattle.perm_model.specs.declared.permissions.Permission.TheVariants.{ReadEventMetadata}
use Rattle.perm_model.specs.declared.permissions.Permission.TheVariants.{ReadTitle}
use Rattle.perm_model.specs.declared.permissions.TheConstants.{PERMISSIONS}

-- the word for a permission in a template's list
abbrev pub permission_name : Permission → List ℕ
permission_name AccessConsent = codes "access_consent"
permission_name AccessGlobals = codes "access_globals"
permission_name AccessLocalStorage = codes "access_local_storage"
permission_name AccessTemplateStorage = codes "access_template_storage"
permission_name GetCookies = codes "get_cookies"
permission_name SetCookies = codes "set_cookies"
permission_name GetUrl = codes "get_url"
permission_name GetReferrer = codes "get_referrer"
permission_name SendPixel = codes "send_pixel"
permission_name InjectScript = codes "inject_script"
permission_name InjectHiddenIframe = codes "inject_hidden_iframe"
permission_name Logging = codes "logging"
permission_name ReadDataLayer = codes "read_data_layer"
permission_name WriteDataLayer = codes "write_data_layer"
permission_name ReadCharacterSet = codes "read_character_set"
permission_name ReadContainerData = codes "read_container_data"
permission_name ReadEventMetadata = codes "read_event_metadata"
permission_name ReadTitle = codes "read_title"

-- the first of these permissions that has this word
abbrev pub named_among : List Permission → List ℕ → Option Permission
named_among permissions name = find (λ p. bytes_eq (permission_name p) name) permissions

-- all permissions
unfoldable pub permissions : List Permission
permissions = PERMISSIONS

-- the permission that has this word
abbrev pub permission_named : List ℕ → Option Permission
permission_named name = named_among permissions name
