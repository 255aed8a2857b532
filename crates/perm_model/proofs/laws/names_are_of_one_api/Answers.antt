use Rattle.std.proofs.Common.{◌≡◌, ℕ, ◌-◌, length, true, refl, arith, [], subst}
use Rattle.std.specs.Str.{bytes_eq}
use Rattle.std.proofs.lemmas.Slice.Eq.{bytes_eq-Decides}
use Rattle.perm_model.specs.Apis.{Row, rows, row_at, api_named, api_name}
use Rattle.perm_model.proofs.Tables.{all_below, passes_below, is_some_of, some_of, position_is}
use Rattle.perm_model.proofs.laws.names_are_of_one_api.Goals as goal

are_found : all_below (λ api. is_some_of (api_named (api_name api)) api) 44 ≡ true
unfolding all_below is_some_of rows
are_found = refl

there_are : length rows ≡ 44
unfolding rows
there_are = refl

pub returns-clause-name : goal.returns-clause-name
returns-clause-name c = λ api within.
    some_of (api_named (api_name api)) api
    (passes_below (λ k. is_some_of (api_named (api_name k)) k) 44 api are_found within)

pub returns-clause-api : goal.returns-clause-api
returns-clause-api c = λ name api found.
    let is = position_is (λ (r : Row). bytes_eq r.0 name) 0 rows api found in
    let same : api - 0 ≡ api = omega arith in (
      omega (arith, is.within, there_are),
      (bytes_eq-Decides (api_name api) name).0
          (subst (λ (k : ℕ). bytes_eq (row_at rows k).0 name ≡ true) same (is.passes ([], []))),
    )
