use Rattle.std.proofs.Common.{◌≡◌, [], take}
use Rattle.gtm_base.specs.KeyPlaces.{places_in, with_places}
use Rattle.gtm_base.proofs.key_places.all_places.Given as goal

abbrev pub invariant-loop-at : goal.invariant-loop-at
invariant-loop-at g l = places_in l.places ≡ with_places 0 (take l.at l.pairs) []
