use Rattle.std.proofs.Common.{◌≡◌, ◌+◌, drop}
use Rattle.std.specs.Prelude.{option_map}
use Rattle.gtm_data.specs.Parsing.{place_for}
use Rattle.gtm_data.proofs.parsing.place_for.Given as goal

abbrev pub invariant-loop-at : goal.invariant-loop-at
invariant-loop-at l =
    place_for l.key l.found
    ≡ option_map (λ place. l.at + place) (place_for l.key (drop l.at l.found))
