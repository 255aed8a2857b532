-- The List to which the parts of a command lead, and what the command makes of it.
use Rattle.std.specs.Prelude.{ℕ, List, map, Option, option_and_then}
use Rattle.gtm_data.specs.Paths.{walk}
use Rattle.gtm_data.specs.Tree.{Tree, list, trees, tree_of}
use Rattle.data_layer.specs.Command as spec
use Rattle.data_layer.specs.Command.{listed, items_in, after_method}
use Rattle.data_layer.specs.declared.commands.Command.{Command}

-- the items of the List to which the parts lead from a value that may be there, if they lead to a
-- List
abbrev pub items_under : List (List ℕ) → Option Tree → Option (List Tree)
items_under parts found = option_and_then items_in (option_and_then (walk parts) found)

-- a List with its items changed; any other value stays
abbrev pub with_items : (List Tree → List Tree) → Tree → Tree
with_items change (list ts) = list (trees (change (listed ts)))
with_items change t = t

-- a command, with trees for its items
abbrev pub asked : Command → spec.Command
asked command =
    record { path = command.path; method = command.method; items = map tree_of command.items.now }

-- a List after the method of a command; any other value stays
abbrev pub changed_by : Command → Tree → Tree
changed_by command = with_items (after_method command.method (map tree_of command.items.now))
