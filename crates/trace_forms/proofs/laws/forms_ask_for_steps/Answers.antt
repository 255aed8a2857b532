use Rattle.std.proofs.Common.{◌≡◌, ℕ, List, [], ◌∷◌, Some, refl, ap}
use Rattle.std.specs.Prelude.{map, option_map}
use Rattle.gtm_data.specs.Facts.{cookie}
use Rattle.gtm_data.specs.Tree.{text, trees}
use Rattle.trace_forms.specs.Forms.{texts_in, step_or_kind}
use Rattle.trace_forms.specs.Steps.{fact}
use Rattle.trace_forms.proofs.laws.forms_ask_for_steps.Goals as goal

texts_are : (values : List (List ℕ)) → texts_in (trees (map text values)) ≡ Some values
texts_are [] = refl
texts_are (first ∷ values) = ap (option_map (λ more. first ∷ more)) (texts_are values)

pub returns-clause-cookie : goal.returns-clause-cookie
returns-clause-cookie c name values =
    ap (λ found. step_or_kind (option_map (λ vs. fact (cookie name vs)) found)) (texts_are values)
