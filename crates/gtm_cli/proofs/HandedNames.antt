-- The names that were handed over, one or two.
use Rattle.std.proofs.Common.{◌≡◌, ◌∙◌, ap, sym, ℕ, List, [], ◌∷◌, ◌++◌, append_assoc}
use Rattle.std.specs.Prelude.{Option, Some, None}
use Rattle.gtm_base.specs.Outside.{AddsName}
use Rattle.gtm_cli.specs.Replays.{Handed}
use Rattle.gtm_cli.specs.Report.{EndsWith}
use Rattle.gtm_cli.proofs.Sames.{some_same}

-- one name, of which there may be more
pub handed_one : (old new : Option (List (List ℕ))) (name : List ℕ) (others : List (List ℕ))
    → AddsName old new name → Handed old new (name ∷ others)
handed_one old None name others adds = tt
handed_one old (Some now) name others adds = (adds.0, 1, adds.1, adds.2)

-- two names, one after the other
pub handed_two : (old middle new : Option (List (List ℕ))) (first second : List ℕ)
    → AddsName old middle first → AddsName middle new second → Handed old new (first ∷ second ∷ [])
handed_two old middle None first second one two = tt
handed_two old None (Some now) first second one two = let never = two.1 in absurd (cc never)
handed_two old (Some between) (Some now) first second one two =
    let same : between ≡ two.0 = some_same two.1 in (
      one.0,
      2,
      one.1,
      two.2 ∙ ap (λ names. names ++ second ∷ []) (sym same ∙ one.2)
          ∙ append_assoc one.0 (first ∷ []) (second ∷ []),
    )

-- the last name
pub ends_with : (old new : Option (List (List ℕ))) (name : List ℕ) → AddsName old new name
    → EndsWith new name
ends_with old None name adds = tt
ends_with old (Some now) name adds = (adds.0, adds.2)
