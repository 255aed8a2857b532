-- Items that were read one behind the other, beside those that the grammar gives.
use Rattle.std.proofs.Common.{◌≡◌, ◌≤◌, ℕ, List, [], ◌∷◌, ◌++◌, map, Option, Some, None, refl, sym}
use Rattle.std.proofs.Common.{ap, ◌∙◌, arith}
use Rattle.std.specs.Prelude.{⊤}
use Rattle.json.specs.Token.{Token}
use Rattle.json.specs.Json.{parse_map}
use Rattle.serde_json.specs.Data as json
use Rattle.serde_json.specs.Data.{depth, items_depth}
use Rattle.gtm_data.specs.declared.data.Data.{Data}
use Rattle.gtm_data.specs.Parsing.{AllWhole, ItemsWhole}
use Rattle.gtm_data.specs.Plain.{tree_in, trees_in}
use Rattle.gtm_data.specs.Tree.{trees, tree_of, item}

-- values before others, as items
abbrev pub before : List json.Data → json.Items → json.Items
before [] rest = rest
before (d ∷ ds) rest = json.item d (before ds rest)

-- numbers are whole and in range, and Lists and Maps nest at most so many levels deep
abbrev pub EachFits : ℕ → List json.Data → Type 0
EachFits levels [] = ⊤
EachFits levels (d ∷ ds) = AllWhole d × (depth d ≤ levels) × EachFits levels ds

pub each_fits-push : (levels : ℕ) (ds : List json.Data) (d : json.Data) → EachFits levels ds
    → AllWhole d → depth d ≤ levels → EachFits levels (ds ++ d ∷ [])
each_fits-push levels [] d fits whole within = (whole, within, tt)
each_fits-push levels (e ∷ ds) d fits whole within =
    (fits.0, fits.1, each_fits-push levels ds d fits.2 whole within)

pub items_whole : (levels : ℕ) (ds : List json.Data) → EachFits levels ds
    → ItemsWhole (before ds json.no_items)
items_whole levels [] fits = tt
items_whole levels (d ∷ ds) fits = (fits.0, items_whole levels ds fits.2)

pub items_within : (levels : ℕ) (ds : List json.Data) → EachFits levels ds
    → items_depth (before ds json.no_items) ≤ levels
items_within levels [] fits = omega arith
items_within levels (d ∷ ds) fits =
    let first = fits.1 in let rest = items_within levels ds fits.2 in omega arith

pub trees_in-before : (ds : List json.Data)
    → trees (map tree_in ds) ≡ trees_in (before ds json.no_items)
unfolding trees_in
trees_in-before [] = refl
trees_in-before (d ∷ ds) = ap (item (tree_in d)) (trees_in-before ds)

before-push : (ds : List json.Data) (d : json.Data) (rest : json.Items)
    → before ds (json.item d rest) ≡ before (ds ++ d ∷ []) rest
before-push [] d rest = refl
before-push (e ∷ ds) d rest = ap (json.item e) (before-push ds d rest)

pub one_more : (ds : List json.Data) (d : json.Data) (read : Option (json.Items × List Token))
    → parse_map (before ds) (parse_map (json.item d) read) ≡ parse_map (before (ds ++ d ∷ [])) read
one_more ds d None = refl
one_more ds d (Some p) = ap (λ rest. Some (rest, p.1)) (before-push ds d p.0)

pub none_before : (read : Option (json.Items × List Token)) → read ≡ parse_map (before []) read
none_before None = refl
none_before (Some p) = refl

map-push : {A B : Type 0} (f : A → B) (xs : List A) (x : A)
    → map f (xs ++ x ∷ []) ≡ map f xs ++ f x ∷ []
map-push f [] x = refl
map-push f (y ∷ xs) x = ap (λ rest. f y ∷ rest) (map-push f xs x)

pub maps-push : (values : List Data) (v : Data) (ds : List json.Data) (d : json.Data)
    → map tree_of values ≡ map tree_in ds → tree_of v ≡ tree_in d
    → map tree_of (values ++ v ∷ []) ≡ map tree_in (ds ++ d ∷ [])
maps-push values v ds d same last =
    map-push tree_of values v ∙ (λ i. same i ++ last i ∷ []) ∙ sym (map-push tree_in ds d)
