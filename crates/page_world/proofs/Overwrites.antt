-- What is put in place of another value.
use Rattle.std.proofs.Common.{◌≡◌, ℕ, List, ◌∷◌, refl, rules}
use Rattle.gtm_data.specs.declared.data.Data.{Foreign, the_lemmas}
use Rattle.gtm_data.specs.Tree.{Tree, object, foreign, tree_of}
use Rattle.data_layer.specs.Layer.{nest}
use Rattle.data_layer.specs.Rows.{IsNoMap}
use Rattle.page_world.specs.Globals.{set_at}

-- a value that is no Map gives way to Maps
pub set_at-other : (part : List ℕ) (parts : List (List ℕ)) (v t : Tree) → IsNoMap t
    → set_at (part ∷ parts) v t ≡ nest (part ∷ parts) v
set_at-other part parts v (object es) other = absurd other
set_at-other part parts v _ other = refl

pub tree_of-Foreign : tree_of Foreign ≡ foreign
tree_of-Foreign = search (rules, the_lemmas)
