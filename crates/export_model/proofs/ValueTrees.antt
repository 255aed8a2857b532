-- The trees of values that are parameters.
use Rattle.std.proofs.Common.{◌≡◌, ◌∙◌, ℕ, List, [], ◌∷◌, map, refl, ap}
use Rattle.export_model.specs.Params.{ValueTree, list, object, param, param_trees}
use Rattle.export_model.specs.Params.{value_step, param_step, value_of, param_of, params_of}
use Rattle.export_model.specs.declared.params.Param.{Param, fold-Param, fold_out-Param}
use Rattle.export_model.specs.declared.params.ParamValue.{roll-ParamValue}
use Rattle.export_model.specs.declared.params.ParamValue.{fold-roll-ParamValue}
use Rattle.export_model.specs.declared.params.ParamValue.TheOpen.{ParamValue-F}

-- a parameter inside a value, as its key and the tree of its value
abbrev step_of : Param → List ℕ × ValueTree
step_of = fold-Param ValueTree (List ℕ × ValueTree) value_step param_step

-- those of parameters inside a value are theirs
trees_inside : (params : List Param) → param_trees (map step_of params) ≡ params_of params
trees_inside [] = refl
trees_inside (p ∷ params) =
    let here : step_of p ≡ param_of p =
    fold_out-Param ValueTree (List ℕ × ValueTree) value_step param_step p in
    λ i. param (here i).0 (here i).1 (trees_inside params i)

-- the tree of a value that is a list
pub tree_of_list : (params : List Param)
    → value_of (roll-ParamValue (ParamValue-F.List params)) ≡ list (params_of params)
tree_of_list params =
    fold-roll-ParamValue ValueTree (List ℕ × ValueTree) value_step param_step
    (ParamValue-F.List params) ∙ ap list (trees_inside params)

-- the tree of a value that is a map
pub tree_of_map : (params : List Param)
    → value_of (roll-ParamValue (ParamValue-F.Map params)) ≡ object (params_of params)
tree_of_map params =
    fold-roll-ParamValue ValueTree (List ℕ × ValueTree) value_step param_step
    (ParamValue-F.Map params) ∙ ap object (trees_inside params)
