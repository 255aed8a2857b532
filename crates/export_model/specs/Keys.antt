-- Parameters by their keys.
use Rattle.std.specs.Prelude.{◌≡◌, ◌≢◌, ◌<◌, ℕ, List, Option, Some, find, slice_get}
use Rattle.std.specs.Str.{bytes_eq}
use Rattle.export_model.specs.declared.params.Param.{Param}

-- the first parameter with a key
abbrev pub first_of_key : List ℕ → List Param → Option Param
first_of_key key params = find (λ param. bytes_eq param.key key) params

-- a parameter has the key, and none before it has
pub record IsFirstOfKey (key : List ℕ) (params : List Param) (param : Param) : Type 0 where
  pub place : ℕ
  pub stands : slice_get params place ≡ Some param
  pub key_is : param.key ≡ key
  pub first : (earlier : ℕ) (other : Param) → earlier < place
      → slice_get params earlier ≡ Some other → other.key ≢ key

-- no parameter has the key
pub record LacksKey (key : List ℕ) (params : List Param) : Type 0 where
  pub nowhere : (place : ℕ) (param : Param) → slice_get params place ≡ Some param
      → param.key ≢ key
