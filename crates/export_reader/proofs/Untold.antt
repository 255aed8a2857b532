-- What is known where no path of a cycle is told.
use Rattle.std.proofs.Common.{◌≡◌, ℕ, List, Option, Some, None, sym, subst}
use Rattle.std.specs.Prelude.{Result, Ok, Err, MatchOption, IfOk, IfNone, option_map}
use Rattle.reference_cycles.specs.Graph.{HasNoCycle, IsFirstOnCycle}

no_cycle : (graph : List (List ℕ)) (made : ℕ → List ℕ) (found : Option ℕ) (path : Option (List ℕ))
    → MatchOption found (HasNoCycle graph) (IsFirstOnCycle graph) → path ≡ option_map made found
    → IfNone path (HasNoCycle graph)
no_cycle graph made None path none is = subst (λ p. IfNone p (HasNoCycle graph)) (sym is) none
no_cycle graph made (Some place) path first is =
    subst (λ p. IfNone p (HasNoCycle graph)) (sym is) tt

pub untold : {E : Type 0} (graph : List (List ℕ)) (made : ℕ → List ℕ) (found : Option ℕ)
    (result : Result (Option (List ℕ)) E)
    → MatchOption found (HasNoCycle graph) (IsFirstOnCycle graph)
    → IfOk result (λ path. path ≡ option_map made found)
    → IfOk result (λ path. IfNone path (HasNoCycle graph))
untold graph made found (Ok path) answers is = no_cycle graph made found path answers is
untold graph made found (Err end) answers is = tt
