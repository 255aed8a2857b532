-- The triggers of a container by the events that they fit.
use Rattle.std.specs.Prelude.{◌≡◌, ℕ, List, [], ◌∷◌, ◌++◌, Bool, true, false, ◌==◌, Option}
use Rattle.std.specs.Prelude.{unwrap_or, slice_get, if◌then◌else◌}
use Rattle.std.specs.List.{list_all}
use Rattle.std.specs.Option.{option_map_or}
use Rattle.std.specs.Str.{bytes_eq}
use Rattle.export_model.specs.declared.triggers.Trigger.{Trigger}
use Rattle.export_model.specs.declared.triggers.TriggerKind.{TriggerKind}
use Rattle.export_model.specs.declared.triggers.TriggerKind.TheVariants as kind
use Rattle.gtm_base.specs.Keys.{value_of}
use Rattle.gtm_triggers.specs.declared.index.Index.{Index}
use Rattle.gtm_triggers.specs.Holding.{holds, places_from}
use Rattle.gtm_variables.specs.Snapshot.{Snapshot}

-- a trigger fits every event
abbrev pub is_custom : TriggerKind → Bool
is_custom kind.Custom = true
is_custom _ = false

-- a trigger is for this event alone
abbrev pub is_for : List ℕ → TriggerKind → Bool
is_for event (kind.Event name) = bytes_eq name event
is_for event _ = false

-- a trigger is the group whose own message it is
abbrev pub is_group_at : Option ℕ → ℕ → TriggerKind → Bool
is_group_at group at kind.Group = option_map_or (λ own. own == at) group false
is_group_at group at _ = false

-- the places of the triggers that fit every event, and of those for one event
abbrev pub customs : List Trigger → List ℕ
customs triggers = places_from (λ entry. is_custom entry.1.kind) 0 triggers

abbrev pub those_for : List ℕ → List Trigger → List ℕ
those_for event triggers = places_from (λ entry. is_for event entry.1.kind) 0 triggers

abbrev pub group_places : Option ℕ → List Trigger → List ℕ
group_places group triggers =
    places_from (λ entry. is_group_at group entry.0 entry.1.kind) 0 triggers

-- the places that are kept for an event
abbrev pub kept_for : List (List ℕ × List ℕ) → List ℕ → List ℕ
kept_for pairs event = unwrap_or (value_of event pairs) []

-- places with one more behind them, where a test says so
abbrev pub put_if : Bool → ℕ → List ℕ → List ℕ
put_if test at places = if test then places ++ at ∷ [] else places

-- an index has the triggers of a list
pub record Indexes (index : Index) (triggers : List Trigger) : Type 0 where
  pub customs : index.customs ≡ customs triggers
  pub events : (event : List ℕ) → kept_for index.by_event.pairs event ≡ those_for event triggers

-- all conditions of the trigger at a place hold
abbrev pub held : Snapshot → List Trigger → ℕ → Bool
held s triggers at =
    option_map_or (λ trigger. list_all (holds s) trigger.conditions) (slice_get triggers at) false
