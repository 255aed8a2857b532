-- Which triggers hold in a snapshot.
use Rattle.std.specs.Prelude.{ℕ, List, map, filter, Bool, true, false, ◌&&◌, ◌==◌, Option}
use Rattle.std.specs.List.{list_all, enumerate_from}
use Rattle.std.specs.Option.{option_map_or}
use Rattle.std.specs.Str.{bytes_eq}
use Rattle.export_model.specs.declared.conditions.Condition.{Condition}
use Rattle.export_model.specs.declared.triggers.Trigger.{Trigger}
use Rattle.export_model.specs.declared.triggers.TriggerKind.{TriggerKind}
use Rattle.export_model.specs.declared.triggers.TriggerKind.TheVariants as kind
use Rattle.export_model.specs.Params.{value_of}
use Rattle.gtm_data.specs.TextOf.{text_of}
use Rattle.gtm_variables.specs.Meaning.{resolved_in}
use Rattle.gtm_variables.specs.Snapshot.{Snapshot}
use Rattle.gtm_triggers.specs.Comparing.{decided}

-- a condition holds
abbrev pub holds : Snapshot → Condition → Bool
holds s condition =
    decided condition (text_of (resolved_in s (value_of condition.left.value)))
    (text_of (resolved_in s (value_of condition.right.value)))

-- the kind of the trigger at a place fits an event, which may be the own message of a group
abbrev pub fits : List ℕ → Option ℕ → ℕ → TriggerKind → Bool
fits event group at (kind.Event name) = bytes_eq name event
fits event group at kind.Custom = true
fits event group at kind.Group = option_map_or (λ own. own == at) group false
fits event group at (kind.Never word) = false

-- the trigger at a place holds: its kind fits the event, and all its conditions hold
abbrev pub trigger_holds : Snapshot → List ℕ → Option ℕ → ℕ × Trigger → Bool
trigger_holds s event group entry =
    fits event group entry.0 entry.1.kind && list_all (holds s) entry.1.conditions

-- the places of those items of a list, counted from a number, that pass a test
abbrev pub places_from : {A : Type 0} → (ℕ × A → Bool) → ℕ → List A → List ℕ
places_from test from items = map (λ entry. entry.0) (filter test (enumerate_from from items))

-- the places of the triggers that hold, in the order of the export
abbrev pub holding : Snapshot → List ℕ → Option ℕ → List ℕ
holding s event group =
    places_from (trigger_holds s event group) 0 s.moment.container.triggers
