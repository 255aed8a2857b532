-- What a change of the values leaves of the keys.
use Rattle.std.specs.Prelude.{◌≡◌, ℕ, zero, suc, List, [], ◌∷◌, map, not, ◌&&◌, ◌||◌, refl}
use Rattle.std.specs.Prelude.{length, nat_lt, Some, None, if◌then◌else◌}
use Rattle.std.specs.Str.{bytes_eq}
use Rattle.std.proofs.Common.{ap}
use Rattle.gtm_base.specs.KeyPlaces.{Places, places_of, with_place, with_places}
use Rattle.gtm_base.specs.Keys.{has_key, distinct_keys, with_value}
use Rattle.gtm_base.specs.declared.key_places.TheConstants.{MAX_SCANNED}

-- a pair with its value changed
abbrev pub on_value : {X Y : Type 0} → (X → Y) → List ℕ × X → List ℕ × Y
on_value change pair = (pair.0, change pair.1)

pub has_key-map : {X Y : Type 0} (change : X → Y) (key : List ℕ) (pairs : List (List ℕ × X))
    → has_key key (map (on_value change) pairs) ≡ has_key key pairs
has_key-map change key [] = refl
has_key-map change key (pair ∷ pairs) =
    ap (λ rest. bytes_eq pair.0 key || rest) (has_key-map change key pairs)

pub distinct_keys-map : {X Y : Type 0} (change : X → Y) (pairs : List (List ℕ × X))
    → distinct_keys (map (on_value change) pairs) ≡ distinct_keys pairs
distinct_keys-map change [] = refl
distinct_keys-map change (pair ∷ pairs) =
    λ i. not (has_key-map change pair.0 pairs i) && distinct_keys-map change pairs i

pub has_key-with_value : {A : Type 0} (key : List ℕ) (pairs : List (List ℕ × A)) (at : ℕ)
    (value : A) → has_key key (with_value pairs at value) ≡ has_key key pairs
has_key-with_value key [] at value = refl
has_key-with_value key (pair ∷ pairs) zero value = refl
has_key-with_value key (pair ∷ pairs) (suc at) value =
    ap (λ rest. bytes_eq pair.0 key || rest) (has_key-with_value key pairs at value)

pub distinct_keys-with_value : {A : Type 0} (pairs : List (List ℕ × A)) (at : ℕ) (value : A)
    → distinct_keys (with_value pairs at value) ≡ distinct_keys pairs
distinct_keys-with_value [] at value = refl
distinct_keys-with_value (pair ∷ pairs) zero value = refl
distinct_keys-with_value (pair ∷ pairs) (suc at) value =
    λ i. not (has_key-with_value pair.0 pairs at value i)
    && distinct_keys-with_value pairs at value i

length-map : {X Y : Type 0} (change : X → Y) (pairs : List (List ℕ × X))
    → length (map (on_value change) pairs) ≡ length pairs
length-map change [] = refl
length-map change (pair ∷ pairs) = ap suc (length-map change pairs)

with_places-map : {X Y : Type 0} (change : X → Y) (at : ℕ) (pairs : List (List ℕ × X))
    (places : Places)
    → with_places at (map (on_value change) pairs) places ≡ with_places at pairs places
with_places-map change at [] places = refl
with_places-map change at (pair ∷ pairs) places =
    with_places-map change (suc at) pairs (with_place pair.0 at places)

pub places_of-map : {X Y : Type 0} (change : X → Y) (pairs : List (List ℕ × X))
    → places_of (map (on_value change) pairs) ≡ places_of pairs
places_of-map change pairs =
    λ i. if nat_lt MAX_SCANNED (length-map change pairs i)
    then Some (with_places-map change 0 pairs [] i) else None

length-with_value : {A : Type 0} (pairs : List (List ℕ × A)) (at : ℕ) (value : A)
    → length (with_value pairs at value) ≡ length pairs
length-with_value [] at value = refl
length-with_value (pair ∷ pairs) zero value = refl
length-with_value (pair ∷ pairs) (suc at) value = ap suc (length-with_value pairs at value)

with_places-with_value : {A : Type 0} (from : ℕ) (pairs : List (List ℕ × A)) (at : ℕ) (value : A)
    (places : Places)
    → with_places from (with_value pairs at value) places ≡ with_places from pairs places
with_places-with_value from [] at value places = refl
with_places-with_value from (pair ∷ pairs) zero value places = refl
with_places-with_value from (pair ∷ pairs) (suc at) value places =
    with_places-with_value (suc from) pairs at value (with_place pair.0 from places)

pub places_of-with_value : {A : Type 0} (pairs : List (List ℕ × A)) (at : ℕ) (value : A)
    → places_of (with_value pairs at value) ≡ places_of pairs
places_of-with_value pairs at value =
    λ i. if nat_lt MAX_SCANNED (length-with_value pairs at value i)
    then Some (with_places-with_value 0 pairs at value [] i) else None
