-- How many parameters there are.
use Rattle.std.proofs.Common.{◌≡◌, suc, List, [], ◌∷◌, length, refl, ap}
use Rattle.export_model.specs.Params.{params_of}
use Rattle.export_model.specs.Small.{count_of}
use Rattle.export_model.specs.declared.params.Param.{Param}

-- as many as their trees
pub count_of_params : (params : List Param) → count_of (params_of params) ≡ length params
count_of_params [] = refl
count_of_params (p ∷ params) = ap suc (count_of_params params)
