-- A command that does something: the List that it finds in a model, and what it makes of the model.
use Rattle.std.proofs.Common.{◌≡◌, List, Option, Some, None, Bool, true, false, if◌then◌else◌, refl}
use Rattle.std.proofs.Common.{sym, ap, ◌∙◌}
use Rattle.std.specs.Prelude.{option_map, option_and_then}
use Rattle.std.proofs.lemmas.Option.{option_and_then_some}
use Rattle.gtm_data.specs.Paths.{walk}
use Rattle.gtm_data.specs.Tree.{Tree, list, Trees, end, item, trees}
use Rattle.data_layer.specs.Change.{changed_at}
use Rattle.data_layer.specs.Command.{Command, model_after, adds_too_deep, after_method, listed}
use Rattle.data_layer.specs.Command.{items_in}
use Rattle.data_layer.proofs.Steps.{none_some, some_same}

trees_listed : (ts : Trees) → trees (listed ts) ≡ ts
trees_listed end = refl
trees_listed (item t ts) = ap (item t) (trees_listed ts)

list_of : (v : Tree) (old : List Tree) → items_in v ≡ Some old → v ≡ list (trees old)
list_of (list ts) old is = ap list (sym (trees_listed ts) ∙ ap trees (some_same is))
list_of _ old is = absurd (none_some is)

-- the model with the List at the command's path as its method leaves it
abbrev pub with_items : Command → Tree → List Tree → Tree
with_items command model old =
    changed_at command.path (λ _. list (trees (after_method command.method command.items old)))
    model

-- the List that the command finds, and the model that it makes
pub record Runs (command : Command) (model changed : Tree) : Type 0 where
  pub old : List Tree
  pub was : walk command.path model ≡ Some (list (trees old))
  pub is : with_items command model old ≡ changed

runs_on : (command : Command) (model changed : Tree) (o : Option (List Tree))
    → option_and_then items_in (walk command.path model) ≡ o
    → option_map (with_items command model) o ≡ Some changed → Runs command model changed
runs_on command model changed None found is = absurd (none_some is)
runs_on command model changed (Some old) found is = record {
  old = old;
  was =
      option_and_then_some items_in (walk command.path model) old found
      (λ v there items. there ∙ ap Some (list_of v old items));
  is = some_same is;
}

runs_unless : (test : Bool) (command : Command) (model changed : Tree)
    → (if test then None
    else option_map (with_items command model)
    (option_and_then items_in
    (walk command.path model))) ≡ Some changed → Runs command model changed
runs_unless true command model changed is = absurd (none_some is)
runs_unless false command model changed is =
    runs_on command model changed (option_and_then items_in (walk command.path model)) refl is

pub runs : (command : Command) (model changed : Tree) → model_after command model ≡ Some changed
    → Runs command model changed
runs command model changed = runs_unless (adds_too_deep command) command model changed
