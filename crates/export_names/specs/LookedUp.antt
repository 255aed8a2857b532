-- Where the names in parameters come from.
use Rattle.std.specs.Prelude.{◌≡◌, ℕ, List}
use Rattle.export_model.specs.declared.params.NameRef.{NameRef}
use Rattle.export_names.specs.Names.{NameLists, name_ref}

-- a name of the model is what some word stands for
pub record IsLookedUp (names : NameLists) (found : NameRef) : Type 0 where
  pub word : List ℕ
  pub is : found ≡ name_ref names word
