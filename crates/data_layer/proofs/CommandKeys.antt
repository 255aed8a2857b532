-- A command leaves no Map with a key twice, where the model and the pushed List had none.
use Rattle.std.proofs.Common.{◌≡◌, ℕ, ◌+◌, ◌-◌, List, [], ◌∷◌, length, reverse, All, Option, Some}
use Rattle.std.proofs.Common.{None, Bool, true, false, ◌||◌, if◌then◌else◌, subst, refl, sym, ap}
use Rattle.std.proofs.Common.{◌∙◌}
use Rattle.std.specs.Prelude.{decimal, option_map, unwrap_or}
use Rattle.std.specs.Str.{bytes_eq}
use Rattle.std.proofs.lemmas.List.{reverse-append}
use Rattle.std.proofs.lemmas.List.Elements.{All-nil, All-cons, All-head, All-tail, All-append}
use Rattle.std.proofs.lemmas.List.Elements.{All-take, All-drop}
use Rattle.std.proofs.lemmas.Option.{option_and_then_some}
use Rattle.gtm_data.specs.Distinct.{Distinct, DistinctItems, DistinctEntries, has_member}
use Rattle.gtm_data.specs.Paths.{named, walk}
use Rattle.gtm_data.specs.Tree.{Tree, text, list, object, Trees, end, item, Entries, none, entry}
use Rattle.gtm_data.specs.Tree.{trees}
use Rattle.data_layer.specs.After.{keys, is_among}
use Rattle.data_layer.specs.Change.{change_member, change_numbered, change_named, changed_at}
use Rattle.data_layer.specs.Command.{Command, command_in, commanded, model_after, after_method}
use Rattle.data_layer.specs.Command.{after_command, listed}
use Rattle.data_layer.specs.Layer.{LayerState, DistinctLayer}
use Rattle.data_layer.specs.declared.commands.Method.{Method}
use Rattle.data_layer.specs.declared.commands.Method.TheVariants.{Push, Pop, Shift, Unshift}
use Rattle.data_layer.specs.declared.commands.Method.TheVariants.{Reverse}
use Rattle.data_layer.proofs.OnePart.{keys_stay, step_there}
use Rattle.data_layer.proofs.CommandRuns.{runs}
use Rattle.data_layer.proofs.Steps.{none_some, some_same, step_distinct}

-- ---- a change that keeps keys distinct, at one part or at the last of several
has_member_among : (name : List ℕ) (es : Entries) → has_member name es ≡ is_among name (keys es)
has_member_among name none = refl
has_member_among name (entry key t es) =
    ap (λ test. bytes_eq key name || test) (has_member_among name es)

module _ (name : List ℕ) (change : Tree → Tree)
    (keeps : (t : Tree) → Distinct t → Distinct (change t)) where
  member_at : (test : Bool) (key : List ℕ) (t : Tree) (es : Entries)
      → DistinctEntries (entry key t es) → DistinctEntries (change_member name change es)
      → DistinctEntries
      (if test then entry key (change t) es else entry key t (change_member name change es))
  member_at true key t es distinct later = (distinct.0, keeps t distinct.1, distinct.2)
  member_at false key t es distinct later = (
    has_member_among key (change_member name change es)
        ∙ ap (is_among key) (keys_stay name change es) ∙ sym (has_member_among key es)
        ∙ distinct.0,
    distinct.1,
    later,
  )

  change_member_distinct : (es : Entries) → DistinctEntries es
      → DistinctEntries (change_member name change es)
  change_member_distinct none distinct = tt
  change_member_distinct (entry key t es) distinct =
      member_at (bytes_eq key name) key t es distinct (change_member_distinct es distinct.2)

  numbered_at : (test : Bool) (from : ℕ) (t : Tree) (ts : Trees) → DistinctItems (item t ts)
      → DistinctItems (change_numbered (from + 1) name change ts)
      → DistinctItems
      (if test then item (change t) ts else item t (change_numbered (from + 1) name change ts))
  numbered_at true from t ts distinct later = (keeps t distinct.0, distinct.1)
  numbered_at false from t ts distinct later = (distinct.0, later)

  change_numbered_distinct : (from : ℕ) (ts : Trees) → DistinctItems ts
      → DistinctItems (change_numbered from name change ts)
  change_numbered_distinct from end distinct = tt
  change_numbered_distinct from (item t ts) distinct =
      numbered_at (bytes_eq (decimal from) name) from t ts distinct
      (change_numbered_distinct (from + 1) ts distinct.1)

  change_named_distinct : (t : Tree) → Distinct t → Distinct (change_named name change t)
  change_named_distinct (object es) distinct = change_member_distinct es distinct
  change_named_distinct (list ts) distinct = change_numbered_distinct 0 ts distinct
  change_named_distinct _ distinct = distinct

changed_at_distinct : (parts : List (List ℕ)) (change : Tree → Tree)
    → ((t : Tree) → Distinct t → Distinct (change t)) → (t : Tree) → Distinct t
    → Distinct (changed_at parts change t)
changed_at_distinct [] change keeps = keeps
changed_at_distinct (part ∷ parts) change keeps =
    change_named_distinct part (changed_at parts change) (changed_at_distinct parts change keeps)

walk_distinct : (parts : List (List ℕ)) (t v : Tree) → Distinct t → walk parts t ≡ Some v
    → Distinct v
walk_distinct [] t v distinct is = subst Distinct (some_same is) distinct
walk_distinct (part ∷ parts) t v distinct is =
    option_and_then_some (walk parts) (named part t) v is (λ u first later.
    let there = step_there part (λ w. w) t u first in
    walk_distinct parts u v (step_distinct there.place t u distinct there.found) later)

-- ---- the items of a List
each_of : (items : List Tree) → DistinctItems (trees items) → All Distinct items
each_of [] distinct = All-nil Distinct
each_of (t ∷ items) distinct = All-cons Distinct t items distinct.0 (each_of items distinct.1)

of_each : (items : List Tree) → All Distinct items → DistinctItems (trees items)
of_each [] each = tt
of_each (t ∷ items) each =
    (All-head Distinct t items each, of_each items (All-tail Distinct t items each))

each_listed : (ts : Trees) → DistinctItems ts → All Distinct (listed ts)
each_listed end distinct = All-nil Distinct
each_listed (item t ts) distinct =
    All-cons Distinct t (listed ts) distinct.0 (each_listed ts distinct.1)

each_reversed : (items : List Tree) → All Distinct items → All Distinct (reverse items)
each_reversed [] each = each
each_reversed (t ∷ items) each =
    subst (All Distinct) (sym (reverse-append (t ∷ []) items))
    (All-append Distinct (reverse items) (t ∷ [])
    (each_reversed items (All-tail Distinct t items each))
    (All-cons Distinct t [] (All-head Distinct t items each) (All-nil Distinct)))

each_after : (method : Method) (items old : List Tree) → All Distinct items → All Distinct old
    → All Distinct (after_method method items old)
each_after Push items old each each_old = All-append Distinct old items each_old each
each_after Pop items old each each_old = All-take Distinct (length old - 1) old each_old
each_after Shift items old each each_old = All-drop Distinct 1 old each_old
each_after Unshift items old each each_old = All-append Distinct items old each each_old
each_after Reverse items old each each_old = each_reversed old each_old

-- ---- a command
-- a command has the items that it was made with
same_items : (path : List (List ℕ)) (items : List Tree) (o : Option Method) (command : Command)
    → option_map (λ method. record { path = path; method = method; items = items }) o ≡ Some command
    → items ≡ command.items
same_items path items None command is = absurd (none_some is)
same_items path items (Some method) command is = ap (λ made. made.items) (some_same is)

each_pushed : (pushed : Tree) (command : Command) → Distinct pushed
    → command_in pushed ≡ Some command → All Distinct command.items
each_pushed (list (item (text words) ts)) command distinct asks =
    subst (All Distinct) (same_items _ (listed ts) _ command asks) (each_listed ts distinct.1)
each_pushed _ command distinct asks = absurd (none_some asks)

commanded_distinct : (pushed model changed : Tree) → Distinct pushed → Distinct model
    → commanded pushed model ≡ Some changed → Distinct changed
commanded_distinct pushed model changed distinct distinct_model does =
    option_and_then_some (λ command. model_after command model) (command_in pushed) changed does
    (λ command asks ran.
    let run = runs command model changed ran in
    let each_old =
    each_of run.old
    (walk_distinct command.path model (list (trees run.old)) distinct_model run.was) in
    let items = after_method command.method command.items run.old in
    let distinct_items : DistinctItems (trees items) =
    of_each items
    (each_after command.method command.items run.old (each_pushed pushed command distinct asks)
    each_old) in
    subst Distinct run.is
    (changed_at_distinct command.path (λ _. list (trees items)) (λ t _. distinct_items) model
    distinct_model))

or_distinct : (o : Option Tree) (model : Tree)
    → ((changed : Tree) → o ≡ Some changed → Distinct changed) → Distinct model
    → Distinct (unwrap_or o model)
or_distinct None model each distinct = distinct
or_distinct (Some changed) model each distinct = each changed refl

pub command_distinct : (pushed : Tree) (layer : LayerState) → Distinct pushed → DistinctLayer layer
    → DistinctLayer (after_command pushed layer)
command_distinct pushed layer distinct kept = record {
  model =
      or_distinct (commanded pushed layer.model) layer.model
      (λ changed. commanded_distinct pushed layer.model changed distinct kept.model) kept.model;
  version_one = kept.version_one;
}
