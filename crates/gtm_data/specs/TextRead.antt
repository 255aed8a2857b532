-- What was read of a JSON text, as a tree.
use Rattle.std.specs.Prelude.{ℕ, List}
use Rattle.gtm_data.specs.Tree.{Tree, tree_of, object, entry, none}
use Rattle.gtm_data.specs.declared.json_texts.TextData.{TextData}
use Rattle.gtm_data.specs.declared.json_texts.TextData.TheVariants.{Member, Whole}

-- the tree of a text, of which the one member with this key was read, or all
abbrev pub read_tree : List ℕ → TextData → Tree
read_tree key (Member value) = object (entry key (tree_of value) none)
read_tree key (Whole value) = tree_of value
