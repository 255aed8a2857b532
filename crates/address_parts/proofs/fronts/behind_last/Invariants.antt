use denote.Shadow.{shadow}
use denote.Text.{Utf8}
use Rattle.std.proofs.Common.{◌≡◌, length, option_map}
use Rattle.std.specs.Option.{option_or}
use Rattle.std.specs.Str.{chars}
use Rattle.address_parts.specs.Fronts as spec
use Rattle.address_parts.proofs.fronts.behind_last.Given as goal

abbrev pub invariant-loop-c : goal.invariant-loop-c
invariant-loop-c l =
    shadow (Utf8 l.rest)
    × (option_or (spec.behind_last l.mark (chars l.rest))
    (option_map (λ found. chars found.now) l.found)
    ≡ spec.behind_last l.mark (chars l.text))

abbrev pub decreases-loop-c : goal.decreases-loop-c
decreases-loop-c l = length (chars l.rest)
