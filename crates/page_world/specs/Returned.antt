-- What a tree of functions has told.
use Rattle.std.specs.Prelude.{ℕ, List, [], ◌∷◌, Option, None, option_map, option_and_then}
use Rattle.gtm_base.specs.Keys.{value_of}
use Rattle.gtm_data.specs.Tree.{Tree, tree_of}
use Rattle.page_world.specs.declared.returns.Returns.{Returns}
use Rattle.page_world.specs.declared.returns.Returns.TheViews.{out-Returns}

-- what the function at these parts returns, where that was told
abbrev pub returned_in : Returns → List (List ℕ) → Option Tree
returned_in returns [] = option_map tree_of (out-Returns returns).told
returned_in returns (part ∷ parts) =
    option_and_then (λ below. returned_in below parts)
    (value_of part (out-Returns returns).below.pairs)

-- the same of functions below: at no parts there is none
abbrev pub returned_below : List (List ℕ × Returns) → List (List ℕ) → Option Tree
returned_below pairs [] = None
returned_below pairs (part ∷ parts) =
    option_and_then (λ below. returned_in below parts) (value_of part pairs)
