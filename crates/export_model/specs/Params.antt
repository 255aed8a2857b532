-- Parameters as trees of plain numbers, texts and lists.
use Rattle.std.specs.Prelude.{ℕ, ℤ, List, [], ◌∷◌, Bool, map}
use Rattle.export_model.specs.declared.params.Piece.{Piece}
use Rattle.export_model.specs.declared.params.Param.{Param}
use Rattle.export_model.specs.declared.params.ParamValue.{ParamValue, fold-ParamValue}
use Rattle.export_model.specs.declared.params.ParamValue.TheOpen.{ParamValue-F, Param-F}

-- the value of a parameter
mutual
  pub data ValueTree : Type 0 where
    template : List Piece → ValueTree
    integer : ℤ → ValueTree
    bool : Bool → ValueTree
    list : ParamTrees → ValueTree
    object : ParamTrees → ValueTree
    reference : List ℕ → ValueTree

  -- parameters by their keys, in order
  pub data ParamTrees : Type 0 where
    end : ParamTrees
    param : List ℕ → ValueTree → ParamTrees → ParamTrees

-- a list of keys and values as parameters
abbrev pub param_trees : List (List ℕ × ValueTree) → ParamTrees
param_trees [] = end
param_trees (p ∷ ps) = param p.0 p.1 (param_trees ps)

-- one level, with each parameter inside already seen as its key and value
abbrev pub value_step : ParamValue-F ValueTree (List ℕ × ValueTree) → ValueTree
value_step (ParamValue-F.Template pieces) = template pieces
value_step (ParamValue-F.Integer number) = integer number
value_step (ParamValue-F.Bool b) = bool b
value_step (ParamValue-F.List params) = list (param_trees params)
value_step (ParamValue-F.Map params) = object (param_trees params)
value_step (ParamValue-F.Reference text) = reference text

abbrev pub param_step : Param-F ValueTree (List ℕ × ValueTree) → List ℕ × ValueTree
param_step p = (p.key, p.value)

-- the tree of a parameter's value
abbrev pub value_of : ParamValue → ValueTree
value_of = fold-ParamValue ValueTree (List ℕ × ValueTree) value_step param_step

-- a parameter's key and the tree of its value
abbrev pub param_of : Param → List ℕ × ValueTree
param_of p = (p.key, value_of p.value)

-- the trees of parameters
abbrev pub params_of : List Param → ParamTrees
params_of params = param_trees (map param_of params)
