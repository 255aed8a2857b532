-- The places of the variables that a list of parameters names from some place on.
use Rattle.std.proofs.Common.{◌≡◌, ℕ, ◌<◌, ◌+◌, List, ◌∷◌, ◌++◌, drop, length, get_or, ap, sym, ◌∙◌}
use Rattle.std.proofs.Common.{append_assoc}
use Rattle.std.specs.List.{filter_map}
use Rattle.std.proofs.lemmas.List.{drop_more}
use Rattle.std.proofs.lemmas.List.Elements.{filter_map-append}
use Rattle.export_model.specs.declared.params.Param.{Param}
use Rattle.export_model.specs.Graphs.{variable_at}
use Rattle.export_model.specs.Names.{names_in, names_in_all}
use Rattle.export_model.specs.Params.{value_of, params_of}

-- the places of the variables that a parameter's value names
abbrev named_by_value : Param → List ℕ
named_by_value param = filter_map variable_at (names_in (value_of param.value))

-- the places of the variables that parameters name
abbrev named_by_params : List Param → List ℕ
named_by_params params = filter_map variable_at (names_in_all (params_of params))

-- what parameters name is what the first names and then what the others name
named_by_params-cons : (param : Param) (params : List Param)
    → named_by_params (param ∷ params) ≡ named_by_value param ++ named_by_params params
unfolding names_in_all
named_by_params-cons param params =
    filter_map-append variable_at (names_in (value_of param.value))
    (names_in_all (params_of params))

-- one turn of a loop over parameters
pub one_more : (params : List Param) (at : ℕ) (param : Param) (before after : List ℕ)
    → at < length params → param ≡ get_or params at param → after ≡ before ++ named_by_value param
    → after ++ named_by_params (drop (at + 1) params) ≡ before ++ named_by_params (drop at params)
one_more params at param before after within is made =
    let rest = drop (at + 1) params in
    let split : drop at params ≡ param ∷ rest =
    drop_more params at param within ∙ ap (λ p. p ∷ rest) (sym is) in
    ap (λ places. places ++ named_by_params rest) made
    ∙ append_assoc before (named_by_value param) (named_by_params rest)
    ∙ ap (λ places. before ++ places)
    (sym (ap named_by_params split ∙ named_by_params-cons param rest))
