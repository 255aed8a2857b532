-- When the triggers of an export are looked at, and the members of groups.
use Rattle.std.specs.Prelude.{ℕ, List, [], ◌∷◌, Bool, true, false, Option, Some, None, ◌&&◌, not}
use Rattle.std.specs.Prelude.{if◌then◌else◌, unwrap_or, codes}
use Rattle.std.specs.Option.{option_map_or}
use Rattle.std.specs.Str.{bytes_eq}
use Rattle.folded_words.specs.Words.{among, folded}
use Rattle.export_fields.specs.declared.params.WrittenParam.{WrittenParam, out-WrittenParam}
use Rattle.export_entries.specs.declared.triggers.WrittenTrigger.{WrittenTrigger}
use Rattle.export_model.specs.declared.triggers.TriggerKind.{TriggerKind}
use Rattle.export_model.specs.declared.triggers.TriggerKind.TheVariants.{Event, Custom, Group}
use Rattle.export_model.specs.declared.triggers.TriggerKind.TheVariants.{Never}
use Rattle.export_names.specs.Values.{value_of, is_template}

-- the types of triggers that hold at an event of their own, with its name
abbrev pub event_words : List (List ℕ × List ℕ)
event_words =
    (codes "pageview", codes "gtm.js")
    ∷ (codes "domready", codes "gtm.dom")
    ∷ (codes "windowloaded", codes "gtm.load")
    ∷ (codes "init", codes "gtm.init")
    ∷ (codes "consentinit", codes "gtm.init_consent")
    ∷ (codes "click", codes "gtm.click")
    ∷ (codes "linkclick", codes "gtm.linkClick")
    ∷ (codes "formsubmission", codes "gtm.formSubmit")
    ∷ (codes "historychange", codes "gtm.historyChange-v2")
    ∷ (codes "jserror", codes "gtm.pageError")
    ∷ (codes "scrolldepth", codes "gtm.scrollDepth")
    ∷ (codes "elementvisibility", codes "gtm.elementVisibility")
    ∷ (codes "youtubevideo", codes "gtm.video")
    ∷ []

-- a parameter is a text that is not empty
abbrev pub is_filled : WrittenParam → Bool
is_filled param =
    is_template (out-WrittenParam param).kind && not (bytes_eq (value_of param) (codes ""))

-- the name of a timer's events: that of the trigger, as it was written, where it is a text that is
-- not empty
abbrev pub timer_event : Option WrittenParam → List ℕ
timer_event None = codes "gtm.timer"
timer_event (Some param) = if is_filled param then value_of param else codes "gtm.timer"

-- the kinds of triggers that hold at no event of their own, with the name of a timer's events
abbrev pub trigger_words : List ℕ → List (List ℕ × TriggerKind)
trigger_words timer =
    (codes "timer", Event timer) ∷ (codes "customevent", Custom) ∷ (codes "triggergroup", Group)
    ∷ []

-- the kind of a trigger of a type that holds at an event of its own, and else of none
abbrev pub event_kind : List ℕ → List ℕ → TriggerKind
event_kind kind word = option_map_or Event (among event_words word) (Never kind)

-- when a trigger is looked at, by its folded type
abbrev pub trigger_kind : WrittenTrigger → TriggerKind
trigger_kind written =
    let word = folded written.kind in
    unwrap_or (among (trigger_words (timer_event written.event_name)) word)
    (event_kind written.kind word)

-- a kind is that of groups
abbrev pub is_group_kind : TriggerKind → Bool
is_group_kind (Event name) = false
is_group_kind Custom = false
is_group_kind Group = true
is_group_kind (Never kind) = false
