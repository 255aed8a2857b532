use Rattle.std.proofs.Common.{◌≡◌, ◌+◌, drop}
use Rattle.std.specs.Prelude.{option_map}
use Rattle.std.specs.Str.{chars}
use Rattle.gtm_base.specs.Keys.{place_of}
use Rattle.gtm_base.proofs.keyed.scan.Given as goal

abbrev pub invariant-loop-at : goal.invariant-loop-at
invariant-loop-at g l =
    place_of (chars l.key) l.pairs
    ≡ option_map (λ place. l.at + place) (place_of (chars l.key) (drop l.at l.pairs))
