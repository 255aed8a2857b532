use Rattle.std.proofs.Common.{◌≡◌, Some, refl}
use Rattle.std.specs.Str.{bytes_eq}
use Rattle.std.proofs.lemmas.Slice.Eq.{bytes_eq-Decides}
use Rattle.perm_model.specs.declared.permissions.Permission.TheVariants as permission
use Rattle.perm_model.specs.Names.{permissions, permission_name, permission_named}
use Rattle.perm_model.proofs.Tables.{find_passes}
use Rattle.perm_model.proofs.laws.words_are_of_one_permission.Goals as goal

pub returns-clause-word : goal.returns-clause-word
unfolding permissions
returns-clause-word c = λ p. elim p as (λ q. permission_named (permission_name q) ≡ Some q) [
  | permission.AccessConsent ↦ refl
  | permission.AccessGlobals ↦ refl
  | permission.AccessLocalStorage ↦ refl
  | permission.AccessTemplateStorage ↦ refl
  | permission.GetCookies ↦ refl
  | permission.SetCookies ↦ refl
  | permission.GetUrl ↦ refl
  | permission.GetReferrer ↦ refl
  | permission.SendPixel ↦ refl
  | permission.InjectScript ↦ refl
  | permission.InjectHiddenIframe ↦ refl
  | permission.Logging ↦ refl
  | permission.ReadDataLayer ↦ refl
  | permission.WriteDataLayer ↦ refl
  | permission.ReadCharacterSet ↦ refl
  | permission.ReadContainerData ↦ refl
  | permission.ReadEventMetadata ↦ refl
  | permission.ReadTitle ↦ refl
]

pub returns-clause-permission : goal.returns-clause-permission
returns-clause-permission c = λ name p found.
    (bytes_eq-Decides (permission_name p) name).0
    (find_passes (λ q. bytes_eq (permission_name q) name) permissions p found)
