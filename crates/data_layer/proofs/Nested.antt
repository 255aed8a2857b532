-- A value nested under parts, from the last part on.
use Rattle.std.proofs.Common.{◌≡◌, ℕ, List, [], ◌∷◌, ◌++◌, refl, ap}
use Rattle.gtm_data.specs.Tree.{Tree, object, entry, none}
use Rattle.data_layer.specs.Layer.{nest}

pub nest-last : (parts : List (List ℕ)) (part : List ℕ) (t : Tree)
    → nest (parts ++ part ∷ []) t ≡ nest parts (object (entry part t none))
nest-last [] part t = refl
nest-last (first ∷ parts) part t =
    ap (λ inside. object (entry first inside none)) (nest-last parts part t)
