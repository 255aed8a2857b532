-- Members by their keys, and items by their places.
use Rattle.std.proofs.Common.{◌≡◌, ℕ, List, [], ◌∷◌, Option, Some, None, option_map, Bor, Bool}
use Rattle.std.proofs.Common.{true, false, if◌then◌else◌, refl, ap, ◌∙◌}
use Rattle.std.specs.Option.{option_copied}
use Rattle.std.specs.Str.{bytes_eq}
use Rattle.gtm_base.specs.Keys.{value_of}
use Rattle.gtm_data.specs.declared.data.Data.{Data}
use Rattle.gtm_data.specs.Tree.{Tree, tree_of, entries_of}
use Rattle.gtm_data.specs.Paths.{member}

pub copied : (found : Option (Bor Data))
    → option_map (λ d. tree_of d.now) found ≡ option_map tree_of (option_copied found)
copied None = refl
copied (Some d) = refl

tree_found : (b : Bool) (d : Data) (rest : Option Data) (t : Option Tree)
    → option_map tree_of rest ≡ t
    → option_map tree_of (if b then Some d else rest) ≡ (if b then Some (tree_of d) else t)
tree_found true d rest t e = refl
tree_found false d rest t e = e

value_of-member : (key : List ℕ) (members : List (List ℕ × Data))
    → option_map tree_of (value_of key members) ≡ member key (entries_of members)
value_of-member key [] = refl
value_of-member key (first ∷ members) =
    tree_found (bytes_eq first.0 key) first.1 (value_of key members)
    (member key (entries_of members)) (value_of-member key members)

-- what `Keyed::get` found
pub got : (found : Option (Bor Data)) (key : List ℕ) (members : List (List ℕ × Data))
    → option_copied found ≡ value_of key members
    → option_map (λ d. tree_of d.now) found ≡ member key (entries_of members)
got found key members e = copied found ∙ ap (option_map tree_of) e ∙ value_of-member key members
