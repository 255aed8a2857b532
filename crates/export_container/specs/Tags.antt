-- The tags of an export as those of the model.
use Rattle.std.specs.Prelude.{ℕ, ℤ, pos, List, [], Bool, true, false, Option, Some, None}
use Rattle.std.specs.Prelude.{option_map, option_and_then, unwrap_or, if◌then◌else◌}
use Rattle.std.specs.Option.{option_map_or}
use Rattle.gtm_data.specs.WholeText.{whole_text}
use Rattle.text_places.specs.Places.{place_of}
use Rattle.export_fields.specs.declared.params.WrittenParam.{WrittenParam}
use Rattle.export_entries.specs.declared.tags.WrittenTag.{WrittenTag}
use Rattle.export_entries.specs.declared.turns.ConsentStatus.{ConsentStatus}
use Rattle.export_entries.specs.declared.turns.ConsentStatus.TheVariants.{NotSet, NotNeeded, Needed}
use Rattle.export_entries.specs.declared.turns.WrittenConsent.{WrittenConsent}
use Rattle.export_entries.specs.declared.turns.WrittenOption.{WrittenOption}
use Rattle.export_entries.specs.declared.turns.WrittenOption.TheVariants as written
use Rattle.export_entries.specs.declared.turns.WrittenSetup.{WrittenSetup}
use Rattle.export_entries.specs.declared.turns.WrittenTeardown.{WrittenTeardown}
use Rattle.export_model.specs.declared.tags.FiringOption.{FiringOption}
use Rattle.export_model.specs.declared.tags.FiringOption.TheVariants as options
use Rattle.export_model.specs.declared.tags.Sequence.{Sequence}
use Rattle.export_model.specs.declared.tags.Tag.{Tag}
use Rattle.export_model.specs.declared.tags.TagKind.{TagKind}
use Rattle.export_model.specs.declared.tags.TagKind.TheVariants.{Template, Opaque}
use Rattle.export_names.specs.Params.{params_of}
use Rattle.export_names.specs.Lists.{Lists}
use Rattle.export_names.specs.TriggerRefs.{trigger_refs}
use Rattle.export_names.specs.Types.{TypeLists, template_at}
use Rattle.export_names.specs.Values.{value_of, values_of}

-- what a tag of this type runs: the first template that the type uses, else none that is known
abbrev pub tag_kind : TypeLists → List ℕ → TagKind
tag_kind types kind = option_map_or Template (template_at types kind) (Opaque kind)

-- the priority of a tag: 0 where there is none, or it is no whole number
abbrev pub priority_of : Option WrittenParam → ℤ
priority_of priority =
    unwrap_or (option_and_then (λ param. whole_text (value_of param)) priority) (pos 0)

-- how often a tag may start
abbrev pub option_of : WrittenOption → FiringOption
option_of written.OncePerEvent = options.OncePerEvent
option_of written.OncePerLoad = options.OncePerLoad
option_of written.Unlimited = options.Unlimited

-- the first tag with a name, as a setup or teardown tag: none where no tag has it
abbrev pub sequence_of : List (List ℕ) → List ℕ → Bool → Option Sequence
sequence_of tags name stop =
    option_map (λ at. record { tag = at; stop = stop }) (place_of name tags)

-- the setup tag that a written one stands for
abbrev pub setup_of : List (List ℕ) → Option WrittenSetup → Option Sequence
setup_of tags None = None
setup_of tags (Some setup) = sequence_of tags setup.tag setup.stop

-- the teardown tag that a written one stands for
abbrev pub teardown_of : List (List ℕ) → Option WrittenTeardown → Option Sequence
teardown_of tags None = None
teardown_of tags (Some teardown) = sequence_of tags teardown.tag teardown.stop

-- consent of a tag's own is needed
abbrev pub is_needed : ConsentStatus → Bool
is_needed NotSet = false
is_needed NotNeeded = false
is_needed Needed = true

-- the types of consent that are named
abbrev pub named_types : WrittenConsent → List (List ℕ)
named_types consent = option_map_or (λ types. values_of types.items) consent.types []

-- the types of consent that a tag needs
abbrev pub consent_of : Option WrittenConsent → List (List ℕ)
consent_of None = []
consent_of (Some consent) = if is_needed consent.status then named_types consent else []

-- the tag that a written one stands for
abbrev pub tag_of : Lists → WrittenTag → Tag
tag_of lists tag = record {
  id = tag.id;
  name = tag.name;
  kind = tag_kind lists.types tag.kind;
  params = params_of lists.names tag.params;
  firing = trigger_refs lists.triggers tag.firing;
  blocking = trigger_refs lists.triggers tag.blocking;
  priority = priority_of tag.priority;
  option = option_of tag.turn.option;
  setup = setup_of lists.tags tag.turn.setup;
  teardown = teardown_of lists.tags tag.turn.teardown;
  paused = tag.turn.paused;
  from_ms = tag.turn.from_ms;
  until_ms = tag.turn.until_ms;
  consent = consent_of tag.turn.consent;
}
