-- What a `Values` keeps, and what a call of it does to a caller.
use Rattle.std.specs.Prelude.{◌≡◌, ◌⊎◌, ℕ, ◌+◌, List, map, Bool, true, false, length, Contains}
use Rattle.std.specs.Prelude.{Option, Some, None, is_none, IsSomeAnd, slice_get, slice_index_or}
use Rattle.std.specs.Prelude.{slice_set, if◌then◌else◌}
use Rattle.std.specs.List.{AllByRecursion, sum_by}
use Rattle.std.specs.Option.{option_map_or}
use Rattle.export_model.specs.declared.container.Container.{Container}
use Rattle.export_model.specs.declared.params.NameRef.{NameRef}
use Rattle.export_model.specs.declared.variables.VariableKind.{VariableKind}
use Rattle.export_model.specs.Graphs.{variable_graph}
use Rattle.gtm_data.specs.declared.data.Data.{Data}
use Rattle.gtm_data.specs.Tree.{Tree, tree_of}
use Rattle.page_world.specs.World.{WorldState}
use Rattle.reference_cycles.specs.Graph.{Refers}
use Rattle.reference_heights.specs.Along.{height}
use Rattle.variable_kinds.specs.Kinds.{of_name}
use Rattle.variable_kinds.specs.Moment.{Moment, kept_at}
use Rattle.gtm_variables.specs.declared.values.Values.{Values}
use Rattle.gtm_variables.specs.Calls.{CallRecord, Templates, with_calls}
use Rattle.gtm_variables.specs.Meaning.{IsTemplate, after_kind, value, value_at, fields_of}
use Rattle.gtm_variables.specs.Snapshot.{Snapshot, snapshot, world_in}

-- the moment that a `Values` serves
abbrev pub moment_of : Values → Moment
moment_of values = record {
  container = values.container.now;
  world = world_in values.world.now;
  event = values.event.now;
}

-- memory was wanting
abbrev pub IsSpent : Values → Type 0
IsSpent values = values.spent ≡ true

-- what is kept for a place
abbrev pub kept_for : Values → ℕ → Option Data
kept_for values at = slice_index_or values.kept.items at None

-- the value of a name by what is kept
abbrev pub value_by_kept : Values → NameRef → Tree
value_by_kept values = of_name (moment_of values) (kept_at values.kept.items)

-- nothing is kept for a place
abbrev pub is_missing : Values → ℕ → Bool
is_missing values at = is_none (kept_for values at)

-- the variable at a place enters a template
abbrev pub IsTemplateAt : Container → ℕ → Type 0
IsTemplateAt c at = IsSomeAnd (slice_get c.variables at) (λ variable. IsTemplate variable.kind)

-- there was an entry of the variable at a place
abbrev pub HasCall : List CallRecord → ℕ → Type 0
HasCall calls at = Contains (map (λ call. call.variable) calls) at

-- every value that is kept is the meaning, and every template variable among them was entered
pub record AreKept (s : Snapshot) (calls : List CallRecord) (found : ℕ → Option Data)
    : Type 0 where
  pub meant : (at : ℕ) (kept : Data) → found at ≡ Some kept → tree_of kept ≡ value_at s at
  pub called : (at : ℕ) (kept : Data) → found at ≡ Some kept → IsTemplateAt s.moment.container at
      → HasCall calls at

-- an entry is of a template variable, with the fields that it has in the snapshot
abbrev pub IsCallOf : Snapshot → CallRecord → Type 0
IsCallOf s call =
    IsSomeAnd (slice_get s.moment.container.variables call.variable)
    (λ variable. IsTemplate variable.kind × (call.fields ≡ fields_of (value s) variable))

-- nothing changed but for more entries, each of a template variable with the fields that it has in
-- the snapshot
pub record AddsCalls (s : Snapshot) (before now : Templates) : Type 0 where
  pub more : List CallRecord
  pub after : now ≡ with_calls more before
  pub each : AllByRecursion (IsCallOf s) more

-- what the templates mean is as before, or as after the variable at a place was computed
abbrev pub MayEnter : ℕ → VariableKind → Tree → Templates → Templates → Type 0
MayEnter at kind fields before now = (now ≡ before) ⊎ (now ≡ after_kind at kind fields before)

-- what is said of a caller: what its templates mean to it, the worlds and the variables that it
-- serves, and whether it still holds what was lent to it
module _ {C : Type 0} (meaning : C → Templates) (serves : C → WorldState → Type 0)
    (knows : C → ℕ → Type 0) where
  -- a caller is for a `Values`: what that keeps is over what the templates give, and among their
  -- entries; it serves its world, and each template variable of its container
  pub record IsFor (caller : C) (values : Values) : Type 0 where
    pub kept : AreKept (snapshot (moment_of values) (meaning caller)) (meaning caller).calls
        (kept_for values)
    pub world : serves caller (moment_of values).world
    pub known : (at : ℕ) → IsTemplateAt (moment_of values).container at → knows caller at

module _ {C : Type 0} (serves : C → WorldState → Type 0) (knows : C → ℕ → Type 0)
    (keeps : C → C → Type 0) where
  -- a caller serves what it served, and holds what was lent to it
  pub record Holds (old new : C) : Type 0 where
    pub serves_on : (w : WorldState) → serves old w → serves new w
    pub knows_on : (at : ℕ) → knows old at → knows new at
    pub keeps_on : keeps old new

module _ {C : Type 0} (meaning : C → Templates) (serves : C → WorldState → Type 0)
    (knows : C → ℕ → Type 0) (keeps : C → C → Type 0) where
  -- a caller was entered for template variables of a snapshot, and serves what it served
  pub record Enters (s : Snapshot) (old new : C) : Type 0 where
    pub calls : AddsCalls s (meaning old) (meaning new)
    pub holds : Holds serves knows keeps old new

-- a `Values` is begun: it has a place for each variable
abbrev pub IsBegun : Values → Type 0
IsBegun values = length values.kept.items ≡ length values.container.now.variables

-- every place that a place refers to has a value
abbrev pub IsReady : Values → ℕ → Type 0
IsReady values at = (to : ℕ) → Refers (variable_graph values.container.now) at to
    → is_missing values to ≡ false

-- a value was put at a place
pub record IsPut (before now : Values) (at : ℕ) : Type 0 where
  pub kept : Data
  pub after : now.kept.items ≡ slice_set before.kept.items at (Some kept)

-- what else a `Values` has stays
pub record SameMoment (before now : Values) : Type 0 where
  pub moment : moment_of now ≡ moment_of before
  pub spent : now.spent ≡ before.spent

-- what falls with each turn: for each place with no value more than any height, and the height of
-- the next one
abbrev pub left_of : Container → List (Option Data) → Option ℕ → ℕ
left_of c kept next =
    sum_by (λ found. if is_none found then length (variable_graph c) + 2 else 0) kept
    + option_map_or (height (variable_graph c)) next 0

abbrev pub left : Values → Option ℕ → ℕ
left values next = left_of values.container.now values.kept.items next
