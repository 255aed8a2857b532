-- Two values with the same pairs are one.
use mathlib.Core.Path.{◌≡◌, ◌∙◌, ap, sym}
use mathlib.Core.Bool.{true, Bool-set}
use mathlib.Core.HLevel.{is_prop→PathP}
use denote.Struct.Props.{props}
use Rattle.gtm_base.specs.KeyPlaces.{places_of}
use Rattle.gtm_base.specs.Keys.{distinct_keys}
use Rattle.gtm_base.specs.declared.keyed.Keyed.{Keyed}

pub same_keyed : {X : Type 0} (some other : Keyed X) → some.pairs ≡ other.pairs → some ≡ other
same_keyed some other same =
    let places = some.kept ∙ ap places_of same ∙ sym other.kept in
    λ i. record {
      pairs = same i;
      places = places i;
      distinct =
          is_prop→PathP (λ j. distinct_keys (same j) ≡ true) (λ _. Bool-set _ _) some.distinct
          other.distinct i;
      kept =
          is_prop→PathP (λ j. places j ≡ places_of (same j)) (λ _. Prim.hlevel props) some.kept
          other.kept i;
    }
