-- What a tag says of its turn in a run: the first fault of it, and what it is.
use Rattle.std.specs.Prelude.{ℕ, List, [], ◌∷◌, Option, Some, None, codes}
use Rattle.serde_json.specs.Data.{Data}
use Rattle.export_fields.specs.Fault.{◌then◌}
use Rattle.export_fields.specs.Fields.{not_object, text_fault, text_at, flag_fault, flag_at}
use Rattle.export_fields.specs.Numbers.{whole_fault, whole_at}
use Rattle.export_fields.specs.Objects.{object_fault, object_at, single_fault, single_at}
use Rattle.export_fields.specs.Params.{not_param, as_param}
use Rattle.export_fields.specs.Words.{word_fault, word_at}
use Rattle.folded_words.specs.Words.{among}
use Rattle.export_fields.specs.declared.params.ParamKind.{ParamKind}
use Rattle.export_fields.specs.declared.params.ParamKind.TheVariants as kinds
use Rattle.export_fields.specs.declared.params.WrittenParam.{out-WrittenParam}
use Rattle.export_entries.specs.declared.turns.ConsentStatus.{ConsentStatus}
use Rattle.export_entries.specs.declared.turns.ConsentStatus.TheVariants.{NotSet, NotNeeded, Needed}
use Rattle.export_entries.specs.declared.turns.WrittenConsent.{WrittenConsent}
use Rattle.export_entries.specs.declared.turns.WrittenList.{WrittenList}
use Rattle.export_entries.specs.declared.turns.WrittenOption.{WrittenOption}
use Rattle.export_entries.specs.declared.turns.WrittenOption.TheVariants.{OncePerEvent, OncePerLoad}
use Rattle.export_entries.specs.declared.turns.WrittenOption.TheVariants.{Unlimited}
use Rattle.export_entries.specs.declared.turns.WrittenSetup.{WrittenSetup}
use Rattle.export_entries.specs.declared.turns.WrittenTeardown.{WrittenTeardown}
use Rattle.export_entries.specs.declared.turns.WrittenTurn.{WrittenTurn}

-- the firing option that a word stands for
abbrev pub option_named : List ℕ → Option WrittenOption
option_named =
    among ((codes "onceperevent", OncePerEvent) ∷ (codes "onceperload", OncePerLoad)
    ∷ (codes "unlimited", Unlimited) ∷ [])

-- the consent status that a word stands for
abbrev pub status_named : List ℕ → Option ConsentStatus
status_named =
    among ((codes "notset", NotSet) ∷ (codes "notneeded", NotNeeded) ∷ (codes "needed", Needed)
    ∷ [])

-- the fault of a setup tag
unfoldable pub setup_fault : Data → Option (List ℕ)
setup_fault d =
    not_object d
    then text_fault (codes "tagName") d
    then flag_fault (codes "stopOnSetupFailure") d

-- the setup tag that a value stands for
unfoldable pub written_setup : Data → WrittenSetup
written_setup d = record {
  tag = text_at (codes "tagName") d;
  stop = flag_at (codes "stopOnSetupFailure") d;
}

-- the fault of a teardown tag
unfoldable pub teardown_fault : Data → Option (List ℕ)
teardown_fault d =
    not_object d
    then text_fault (codes "tagName") d
    then flag_fault (codes "stopTeardownOnFailure") d

-- the teardown tag that a value stands for
unfoldable pub written_teardown : Data → WrittenTeardown
written_teardown d = record {
  tag = text_at (codes "tagName") d;
  stop = flag_at (codes "stopTeardownOnFailure") d;
}

-- the fault of a parameter of another kind than LIST: the parameter itself
abbrev pub kind_fault : ParamKind → Option (List ℕ)
kind_fault kinds.List = None
kind_fault kinds.Template = Some []
kind_fault kinds.Integer = Some []
kind_fault kinds.Boolean = Some []
kind_fault kinds.Map = Some []
kind_fault kinds.TriggerReference = Some []
kind_fault kinds.TagReference = Some []

-- the fault of a parameter that has to be a LIST
unfoldable pub listed_fault : Data → Option (List ℕ)
listed_fault d = not_param d then kind_fault (out-WrittenParam (as_param d)).kind

-- the LIST that a value stands for
unfoldable pub written_list : Data → WrittenList
written_list d = record { items = (out-WrittenParam (as_param d)).list }

-- the fault of what a tag says of consent
unfoldable pub consent_fault : Data → Option (List ℕ)
consent_fault d =
    not_object d
    then word_fault status_named (codes "consentStatus") d
    then object_fault listed_fault (codes "consentType") d

-- what a tag says of consent
unfoldable pub written_consent : Data → WrittenConsent
written_consent d = record {
  status = word_at status_named NotSet (codes "consentStatus") d;
  types = object_at written_list (codes "consentType") d;
}

-- the fault of what a tag says of its turn
unfoldable pub turn_fault : Data → Option (List ℕ)
turn_fault d =
    word_fault option_named (codes "tagFiringOption") d
    then single_fault setup_fault (codes "setupTag") d
    then single_fault teardown_fault (codes "teardownTag") d
    then flag_fault (codes "paused") d
    then whole_fault (codes "scheduleStartMs") d
    then whole_fault (codes "scheduleEndMs") d
    then object_fault consent_fault (codes "consentSettings") d

-- what a tag says of its turn
unfoldable pub written_turn : Data → WrittenTurn
written_turn d = record {
  option = word_at option_named OncePerEvent (codes "tagFiringOption") d;
  setup = single_at written_setup (codes "setupTag") d;
  teardown = single_at written_teardown (codes "teardownTag") d;
  paused = flag_at (codes "paused") d;
  from_ms = whole_at (codes "scheduleStartMs") d;
  until_ms = whole_at (codes "scheduleEndMs") d;
  consent = object_at written_consent (codes "consentSettings") d;
}
