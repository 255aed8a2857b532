-- Command arrays: what one does to the List at a path of the model.
use Rattle.std.specs.Prelude.{◌≡◌, ℕ, ◌+◌, ◌-◌, nat_lt, List, [], ◌∷◌, ◌++◌, length, take, drop}
use Rattle.std.specs.Prelude.{reverse, slice_get, Bool, not, is_some, Option, Some, None}
use Rattle.std.specs.Prelude.{option_map, option_and_then, unwrap_or, if◌then◌else◌, codes}
use Rattle.std.specs.List.{list_any}
use Rattle.std.specs.Str.{bytes_eq}
use Rattle.gtm_data.specs.Paths.{Step, at, dotted, walk, Writes}
use Rattle.gtm_data.specs.declared.limits.TheConstants.{MAX_DEPTH}
use Rattle.gtm_data.specs.Tree.{Tree, text, list, Trees, end, item, trees, depth}
use Rattle.data_layer.specs.Change.{changed_at}
use Rattle.data_layer.specs.Layer.{LayerState}
use Rattle.data_layer.specs.Shown.{shown}
use Rattle.data_layer.specs.declared.commands.Method.{Method}
use Rattle.data_layer.specs.declared.commands.Method.TheVariants.{Push, Pop, Shift, Unshift}
use Rattle.data_layer.specs.declared.commands.Method.TheVariants.{Reverse}

-- the items of a List
abbrev pub listed : Trees → List Tree
listed end = []
listed (item t ts) = t ∷ listed ts

-- the items that a value has, if it is a List
abbrev pub items_in : Tree → Option (List Tree)
items_in (list ts) = Some (listed ts)
items_in _ = None

-- the method with this name
abbrev pub method_named : List ℕ → Option Method
method_named name =
    if bytes_eq name (codes "push") then Some Push
    else (if bytes_eq name (codes "pop") then Some Pop
    else (if bytes_eq name (codes "shift") then Some Shift
    else (if bytes_eq name (codes "unshift") then Some Unshift
    else (if bytes_eq name (codes "reverse") then Some Reverse
    else None))))

-- what a command array asks for: a method of the List at a path, with these items
pub record Command : Type 0 where
  pub path : List (List ℕ)
  pub method : Method
  pub items : List Tree

-- the command of these parts: the last one names the method, and the others are the path
abbrev pub command_of : List (List ℕ) → List Tree → Option Command
command_of parts items =
    option_map
    (λ method. record { path = take (length parts - 1) parts; method = method; items = items })
    (option_and_then method_named (slice_get parts (length parts - 1)))

-- the command that a value is, if it is one: a List whose first item is a text, of which these are
-- the dotted parts
abbrev pub command_in : Tree → Option Command
command_in (list (item (text words) ts)) = command_of (dotted words) (listed ts)
command_in _ = None

-- a List after a method with these items
abbrev pub after_method : Method → List Tree → List Tree → List Tree
after_method Push items old = old ++ items
after_method Pop items old = take (length old - 1) old
after_method Shift items old = drop 1 old
after_method Unshift items old = items ++ old
after_method Reverse items old = reverse old

-- the items that a method adds
abbrev pub added : Method → List Tree → List Tree
added Push items = items
added Unshift items = items
added _ items = []

-- an item that the command adds would nest too deep
abbrev pub adds_too_deep : Command → Bool
adds_too_deep command =
    list_any (λ t. nat_lt MAX_DEPTH (depth t + length command.path + 1))
    (added command.method command.items)

-- the model after a command; nothing where no List is at its path, or an item would nest too deep
abbrev pub model_after : Command → Tree → Option Tree
model_after command model =
    if adds_too_deep command then None
    else option_map
    (λ old. changed_at command.path
    (λ _. list (trees (after_method command.method command.items old))) model)
    (option_and_then items_in (walk command.path model))

-- the model after a pushed List; nothing where it is no command, or one that does nothing
abbrev pub commanded : Tree → Tree → Option Tree
commanded pushed model = option_and_then (λ command. model_after command model) (command_in pushed)

-- whether a pushed List is ignored
abbrev pub is_ignored_command : Tree → LayerState → Bool
is_ignored_command pushed layer = not (is_some (commanded pushed layer.model))

-- the layer after a pushed List; the values of version 1 stay
abbrev pub after_command : Tree → LayerState → LayerState
after_command pushed layer =
    record layer { model = unwrap_or (commanded pushed layer.model) layer.model }

-- r is m with a List of these items at the path: every other path, but for those into the List,
-- shows what it showed
pub record HasListAt (path : List Step) (items : List Tree) (m r : Tree) : Type 0 where
  pub there : at path r ≡ Some (list (trees items))
  pub others : (other : List Step) → ((rest : List Step) → path ++ rest ≡ other → ⊥)
      → shown (at other r) ≡ shown (at other m)

-- r is what a command made of m
pub record AfterCommand (command : Command) (m r : Tree) : Type 0 where
  pub path : List Step
  pub writes : Writes path command.path
  pub old : List Tree
  pub was : at path m ≡ Some (list (trees old))
  pub is : HasListAt path (after_method command.method command.items old) m r
