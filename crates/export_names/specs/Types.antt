-- The types that use custom templates.
use Rattle.std.specs.Prelude.{◌≡◌, ℕ, List, [], ◌∷◌, ◌++◌, Option, option_and_then, codes, map, suc}
use Rattle.std.specs.Prelude.{Some, None, option_map, if◌then◌else◌}
use Rattle.std.specs.List.{list_any}
use Rattle.std.specs.Str.{bytes_eq}
use Rattle.std.specs.Option.{option_map_or}
use Rattle.text_places.specs.Places.{place_of, lower_place}
use Rattle.export_entries.specs.declared.templates.WrittenTemplate.{WrittenTemplate}
use Rattle.export_names.specs.declared.types.TypeTexts.{TypeTexts}

-- the type by the container and the template's id there: `cvt_<container>_<id>`
abbrev pub own_type : WrittenTemplate → List ℕ
own_type written = codes "cvt_" ++ written.container ++ codes "_" ++ written.id

-- the template's id in the gallery, where it has one
abbrev pub gallery_id : WrittenTemplate → Option (List ℕ)
gallery_id written = option_and_then (λ gallery. gallery.id) written.gallery

-- the type by a template's id in the gallery: `cvt_<id>`
abbrev pub type_of_gallery : List ℕ → List ℕ
type_of_gallery id = codes "cvt_" ++ id

-- the type by the gallery, or where it has no id there the type by the container again
abbrev pub gallery_type : WrittenTemplate → List ℕ
gallery_type written = option_map_or type_of_gallery (gallery_id written) (own_type written)

-- the types that use a template, each of which begins with `cvt_`
abbrev pub names_of : WrittenTemplate → List (List ℕ)
names_of written =
    own_type written ∷ option_map_or (λ id. type_of_gallery id ∷ []) (gallery_id written) []

-- the types that use a container's templates, in the order of these: those by the container, and
-- those by the gallery
pub record TypeLists : Type 0 where
  pub own : List (List ℕ)
  pub gallery : List (List ℕ)

-- the place of the first template that a type uses
abbrev pub template_at : TypeLists → List ℕ → Option ℕ
template_at types kind = lower_place (place_of kind types.own) (place_of kind types.gallery)

-- the types that use these templates
abbrev pub types_of : List WrittenTemplate → TypeLists
types_of templates = record { own = map own_type templates; gallery = map gallery_type templates }

-- these texts are the types that templates have
pub record HasTypesOf (templates : List WrittenTemplate) (texts : TypeTexts) : Type 0 where
  pub own : texts.own ≡ map own_type templates
  pub gallery : texts.gallery ≡ map gallery_type templates

-- the place of the first template that has a type among its names
abbrev pub first_using : List ℕ → List WrittenTemplate → Option ℕ
first_using kind [] = None
first_using kind (template ∷ templates) =
    if list_any (λ name. bytes_eq name kind) (names_of template) then Some 0
    else option_map suc (first_using kind templates)
