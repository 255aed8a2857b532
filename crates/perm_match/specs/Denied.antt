-- What it means that a need is the first that is not allowed.
use Rattle.std.specs.Prelude.{◌≡◌, ℕ, List, ◌∷◌, ◌++◌, length, true, false}
use Rattle.std.specs.List.{list_all}
use Rattle.perm_model.specs.Allowed.{is_allowed}
use Rattle.perm_model.specs.declared.grants.Policy.{Policy}
use Rattle.perm_model.specs.declared.needs.Need.{Need}

-- so many needs stand before one that is not allowed, and all of them are
pub record IsFirstDenied (policy : Policy) (needs : List Need) (at : ℕ) : Type 0 where
  pub before : List Need
  pub denied : Need
  pub behind : List Need
  pub split : needs ≡ before ++ (denied ∷ behind)
  pub place : length before ≡ at
  pub allowed : list_all (is_allowed policy) before ≡ true
  pub is : is_allowed policy denied ≡ false
