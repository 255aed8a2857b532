-- A file that is opened and read.
use Rattle.std.specs.Prelude.{◌≡◌, ◌⊎◌, ◌≤◌, ℕ, List, Bool, true, false, IsTrue, Some}
use Rattle.std.specs.Prelude.{IfSome, Result}
use Rattle.gtm_base.specs.Causes.{Rose, has_failed}
use Rattle.gtm_base.specs.Outside.{FilesState, Holds, Lacks, AddsName, ReadSome}

-- the file of a name was opened and read on, or could not be; an answer that it could not be read
-- comes only with a rise of the count, or where the files lack the name
pub record OpensFile {T E : Type 0} (is_fault : E → Bool) (result : Result T E)
    (old new : FilesState) (name : List ℕ) : Type 0 where
  pub held : new.held ≡ old.held
  pub names : AddsName old.names new.names name
  pub later : old.faults ≤ new.faults
  pub failed : has_failed is_fault result ≡ true → Rose old.faults new.faults ⊎ Lacks old.held name
  pub kept : has_failed is_fault result ≡ false → new.faults ≡ old.faults
  pub missing : Lacks old.held name → (has_failed is_fault result ≡ true) × (new.is_open ≡ false)
  pub open_name : IsTrue new.is_open → IfSome old.held (λ held. new.open_name ≡ Some name)
  pub closed : new.is_open ≡ false → has_failed is_fault result ≡ true
  pub bytes : (content : List ℕ) → Holds old.held name content → IsTrue new.is_open
      → ReadSome (Some content) new.left
