-- Which tags the triggers fire that hold at an event.
use Rattle.std.specs.Prelude.{ℕ, List, Bool, false, nat_eq, codes}
use Rattle.std.specs.List.{list_any}
use Rattle.std.specs.Str.{bytes_eq}
use Rattle.export_model.specs.declared.tags.Tag.{Tag}
use Rattle.export_model.specs.declared.triggers.TriggerRef.{TriggerRef}
use Rattle.export_model.specs.declared.triggers.TriggerRef.TheVariants.{Own, AllPages, Init}
use Rattle.export_model.specs.declared.triggers.TriggerRef.TheVariants.{ConsentInit, Never}
use Rattle.gtm_triggers.specs.Holding.{places_from}

-- a reference is to a trigger that holds: to one of the container's own among those places, or to
-- the built-in one of the event
abbrev pub holds_by : List ℕ → List ℕ → TriggerRef → Bool
holds_by holding event (Own at) = list_any (nat_eq at) holding
holds_by holding event AllPages = bytes_eq event (codes "gtm.js")
holds_by holding event Init = bytes_eq event (codes "gtm.init")
holds_by holding event ConsentInit = bytes_eq event (codes "gtm.init_consent")
holds_by holding event Never = false

-- some of a tag's firing triggers holds
abbrev pub is_fired : List ℕ → List ℕ → Tag → Bool
is_fired holding event tag = list_any (holds_by holding event) tag.firing

-- the places of the tags that are fired, in the order of the export
abbrev pub fired : List ℕ → List ℕ → List Tag → List ℕ
fired holding event tags = places_from (λ entry. is_fired holding event entry.1) 0 tags
