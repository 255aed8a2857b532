-- The first template that a type uses.
use Rattle.std.proofs.Common.{◌≡◌, ℕ, suc, List, [], ◌∷◌, Bool, true, false, refl, ap, ◌∙◌, map}
use Rattle.std.proofs.Common.{arith}
use Rattle.std.specs.Prelude.{◌||◌, Option, Some, None, min, option_map, if◌then◌else◌}
use Rattle.std.specs.List.{list_any}
use Rattle.std.specs.Option.{option_map_or}
use Rattle.std.specs.Str.{bytes_eq}
use Rattle.text_places.specs.Places.{place_of, lower_place}
use Rattle.export_entries.specs.declared.templates.WrittenTemplate.{WrittenTemplate}
use Rattle.export_names.specs.Types.{own_type, gallery_id, type_of_gallery, gallery_type}
use Rattle.export_names.specs.Types.{first_using}

-- the lower place of two lists, by whether their first texts are the one that is looked for
lower_step : (a b : Bool) (x y : Option ℕ)
    → lower_place (if a then Some 0 else option_map suc x) (if b then Some 0 else option_map suc y)
    ≡ (if a || (b || false) then Some 0 else option_map suc (lower_place x y))
lower_step true true x y = ap Some (let least : min 0 0 ≡ 0 = omega arith in least)
lower_step true false x None = refl
lower_step true false x (Some n) = ap Some (let least : min 0 (suc n) ≡ 0 = omega arith in least)
lower_step false true None y = refl
lower_step false true (Some m) y = ap Some (let least : min (suc m) 0 ≡ 0 = omega arith in least)
lower_step false false None y = refl
lower_step false false (Some m) None = refl
lower_step false false (Some m) (Some n) =
    ap Some (let least : min (suc m) (suc n) ≡ suc (min m n) = omega arith in least)

twice : (a : Bool) → (a || (a || false)) ≡ (a || false)
twice true = refl
twice false = refl

-- the same, where the second text is by the gallery, or the first again
lower_names : (kind own : List ℕ) (gallery : Option (List ℕ)) (x y : Option ℕ)
    → lower_place (if bytes_eq own kind then Some 0 else option_map suc x)
    (if bytes_eq (option_map_or type_of_gallery gallery own) kind then Some 0
    else option_map suc y)
    ≡ (if list_any (λ name. bytes_eq name kind)
    (own ∷ option_map_or (λ id. type_of_gallery id ∷ []) gallery []) then Some 0
    else option_map suc (lower_place x y))
lower_names kind own None x y =
    lower_step (bytes_eq own kind) (bytes_eq own kind) x y
    ∙ ap (λ b. if b then Some 0 else option_map suc (lower_place x y))
    (twice (bytes_eq own kind))
lower_names kind own (Some id) x y =
    lower_step (bytes_eq own kind) (bytes_eq (type_of_gallery id) kind) x y

-- the lower of the places of a type is that of the first template among whose names it is
pub first_by_names : (kind : List ℕ) (templates : List WrittenTemplate)
    → lower_place (place_of kind (map own_type templates))
    (place_of kind (map gallery_type templates)) ≡ first_using kind templates
first_by_names kind [] = refl
first_by_names kind (t ∷ ts) =
    lower_names kind (own_type t) (gallery_id t) (place_of kind (map own_type ts))
    (place_of kind (map gallery_type ts))
    ∙ ap (λ later.
    if list_any (λ name. bytes_eq name kind)
    (own_type t ∷ option_map_or (λ id. type_of_gallery id ∷ []) (gallery_id t) []) then Some 0
    else option_map suc later) (first_by_names kind ts)
