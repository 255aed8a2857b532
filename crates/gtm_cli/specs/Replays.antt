-- What `replay` promises of the words `run EXPORT TRACE`.
use Rattle.std.specs.Prelude.{◌≡◌, ◌≢◌, ◌⊎◌, ◌+◌, ◌<◌, ℕ, List, [], ◌∷◌, ◌++◌, take, false, IsTrue}
use Rattle.std.specs.Prelude.{Option, Some, None, IfSome, encode_utf8_all}
use Rattle.export_model.specs.declared.container.Container.{Container}
use Rattle.export_reader.specs.FirstBroken.{first_broken}
use Rattle.export_reader.specs.declared.top.TheConstants.{MAX_EXPORT}
use Rattle.gtm_base.specs.Engines.{EnginesState}
use Rattle.gtm_base.specs.Outside.{FilesState, SinkState, Holds, Lacks, ReadWithin}
use Rattle.gtm_base.specs.Outside.{TookFront, and_then}
use Rattle.gtm_base.specs.declared.status.Status.{Status}
use Rattle.gtm_base.specs.declared.status.Status.TheVariants.{Done, Usage, FileFault, ExportRefused}
use Rattle.gtm_base.specs.declared.status.Status.TheVariants.{TraceRefused, EngineRefused}
use Rattle.gtm_base.specs.declared.status.Status.TheVariants.{JobLimit, SinkFault, OutOfMemory}
use Rattle.gtm_cli.specs.Models.{Accepts, IsModels, model_text}
use Rattle.gtm_cli.specs.Running.{RefusedAt, TellsEnd, read_text}
use Rattle.gtm_cli.specs.Words.{Names}
use Rattle.replay_engine.specs.Jobs.{start}
use Rattle.trace_lines.specs.Standing.{StopsInTime}
use Rattle.trace_reader.specs.Trace.{trace_of}

-- the files tell that the two names hold these bytes
pub record HoldBoth (files : FilesState) (names : Names) (export trace : List ℕ) : Type 0 where
  pub export_is : Holds files.held names.export export
  pub trace_is : Holds files.held names.trace trace

-- the files tell that they lack the export, or the trace where they hold an export that breaks no
-- rule
abbrev pub LacksOne : FilesState → Names → Type 0
LacksOne files names =
    Lacks files.held names.export
    ⊎ ((e : List ℕ) × Holds files.held names.export e × (first_broken e ≡ None)
    × Lacks files.held names.trace)

-- no step of the trace can have been run: the export breaks a rule, the files lack one of the two,
-- or no file is open
pub data IsUnrun (files later : FilesState) (names : Names) : Type 0 where
  refuses : (e : List ℕ) (refusal : ℕ × List ℕ) → Holds files.held names.export e
      → first_broken e ≡ Some refusal → IsUnrun files later names
  no_export : Lacks files.held names.export → IsUnrun files later names
  no_trace : Lacks files.held names.trace → IsUnrun files later names
  unopened : later.is_open ≡ false → IsUnrun files later names

-- the file of the trace is open, where its name is another than the export's
pub record HasTraceOpen (later : FilesState) (names : Names) : Type 0 where
  pub apart : names.export ≢ names.trace
  pub is_open : IsTrue later.is_open
  pub open_name : later.open_name ≡ Some names.trace

-- the names that `open` was handed are a front of these, where they are still told
abbrev pub Handed : Option (List (List ℕ)) → Option (List (List ℕ)) → List (List ℕ) → Type 0
Handed old new names =
    IfSome new
    (λ now. (before : List (List ℕ)) × (count : ℕ) × (old ≡ Some before)
    × (now ≡ before ++ take count names))

-- a status that tells that the export or the trace is refused
abbrev pub IsRefusal : Status → Type 0
IsRefusal (ExportRefused rule path) = Unit {0}
IsRefusal (TraceRefused line rule) = Unit {0}
IsRefusal Done = ⊥
IsRefusal Usage = ⊥
IsRefusal FileFault = ⊥
IsRefusal (EngineRefused text) = ⊥
IsRefusal (JobLimit step) = ⊥
IsRefusal SinkFault = ⊥
IsRefusal OutOfMemory = ⊥

-- the status, and what was written and read, of a run over the files of these names
pub record Replays (names : Names) (status : Status) (files later : FilesState)
    (out now : SinkState) (engines : EnginesState) : Type 0 where
  -- The headline: where no call failed, the status and the text are the model's, or memory was
  -- wanting.
  pub headline : (e t : List ℕ) → HoldBoth files names e t → later.faults ≡ 0 → now.faults ≡ 0
      → engines.count ≡ 0 → (status ≡ OutOfMemory) ⊎ IsModels e t status out.taken now.taken
  -- When each status comes.
  -- One that tells how a run ends is the model's, and the whole text was written.
  pub ended : (e t : List ℕ) → HoldBoth files names e t → TellsEnd status
      → IsModels e t status out.taken now.taken
  pub done : status ≡ Done → (later.faults ≡ 0) × (now.faults ≡ 0) × (engines.count ≡ 0)
  -- A refusal comes where no call of the files failed.
  pub refused : IsRefusal status → later.faults ≡ 0
  pub export_refused : (e : List ℕ) → Holds files.held names.export e → (rule : ℕ) (path : List ℕ)
      → status ≡ ExportRefused rule path → first_broken e ≡ Some (rule, path)
  pub refuses_export : (e : List ℕ) → Holds files.held names.export e → (rule : ℕ) (path : List ℕ)
      → first_broken e ≡ Some (rule, path) → later.faults ≡ 0
      → (status ≡ OutOfMemory) ⊎ (status ≡ ExportRefused rule path)
  pub file_fault : status ≡ FileFault → (0 < later.faults) ⊎ LacksOne files names
  pub missing_export : Lacks files.held names.export → (status ≡ OutOfMemory) ⊎ (status ≡ FileFault)
  pub missing_trace : Lacks files.held names.trace
      → (status ≡ OutOfMemory)
      ⊎ ((status ≡ FileFault)
      ⊎ ((rule : ℕ) × (path : List ℕ) × (status ≡ ExportRefused rule path)))
  pub engine_refused : (text : List ℕ) → status ≡ EngineRefused text
      → (0 < engines.count) × (engines.last ≡ encode_utf8_all text)
  pub sink_fault : status ≡ SinkFault → 0 < now.faults
  pub not_usage : status ≢ Usage
  -- What was written.
  -- Whatever the status, a front of the model's text.
  pub front : (e t : List ℕ) → HoldBoth files names e t
      → TookFront out.taken now.taken (model_text e t)
  -- Whatever the status, nothing where no step can have been run.
  pub nothing : IsUnrun files later names → now.taken ≡ out.taken
  pub refused_nothing : (rule : ℕ) (path : List ℕ) → status ≡ ExportRefused rule path
      → now.taken ≡ out.taken
  -- Where the trace could not be read on, the text of the steps of all lines whose LF was read.
  pub fault_text : status ≡ FileFault → HasTraceOpen later names
      → (e t read left : List ℕ) (container : Container) → HoldBoth files names e t
      → Accepts e container
      → later.left ≡ Some left → t ≡ read ++ left
      → now.taken ≡ and_then out.taken (read_text container read)
  -- Where engines refused a text, it is one that a step of the trace asks them for, and at least the
  -- whole text of the steps before it.
  pub asked_for : (text : List ℕ) → status ≡ EngineRefused text
      → (e t : List ℕ) (container : Container) → HoldBoth files names e t → Accepts e container
      → RefusedAt (start container) (trace_of t).steps text out.taken now.taken
  -- What was opened and read.
  pub opened : Handed files.names later.names (names.export ∷ names.trace ∷ [])
  -- With an export that breaks a rule, EXPORT alone, and of it no byte behind the first that shows
  -- that it is too large.
  pub refused_opened : (e : List ℕ) (refusal : ℕ × List ℕ) → Holds files.held names.export e
      → first_broken e ≡ Some refusal → Handed files.names later.names (names.export ∷ [])
  pub refused_read : (e : List ℕ) (refusal : ℕ × List ℕ) → Holds files.held names.export e
      → first_broken e ≡ Some refusal → IsTrue later.is_open
      → ReadWithin (MAX_EXPORT + 1) (Some e) later.left
  -- Of the trace no byte behind the first that shows that a line is too long.
  pub trace_read : HasTraceOpen later names → (t : List ℕ) → Holds files.held names.trace t
      → IfSome later.left (StopsInTime t)
