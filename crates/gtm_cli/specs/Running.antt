-- What the parts of a run answer, and what they leave.
use Rattle.std.specs.Prelude.{◌≡◌, ℕ, List, ◌++◌, false, IsTrue, Option, Some, None, IfSome}
use Rattle.std.specs.Prelude.{◌∷◌, Contains, Result, Ok, Err}
use Rattle.export_model.specs.declared.container.Container.{Container}
use Rattle.export_reader.specs.FirstBroken.{first_broken}
use Rattle.export_reader.specs.declared.loading.Loaded.{Loaded}
use Rattle.gtm_base.specs.Outside.{FilesState, SinkState, Holds, TookFront, and_then}
use Rattle.gtm_base.specs.declared.status.Status.{Status}
use Rattle.gtm_base.specs.declared.status.Status.TheVariants as status
use Rattle.gtm_cli.specs.Failures.{status_of_run}
use Rattle.gtm_cli.specs.Models.{Accepts}
use Rattle.gtm_cli.specs.Run.{run_status, run_text}
use Rattle.gtm_cli.specs.declared.failures.ExportFailure.{ExportFailure}
use Rattle.gtm_cli.specs.declared.failures.ExportFailure.TheVariants as export
use Rattle.gtm_cli.specs.declared.failures.RunFailure.{RunFailure}
use Rattle.gtm_cli.specs.declared.failures.RunFailure.TheVariants as run
use Rattle.replay_engine.specs.Addresses.{asked_texts}
use Rattle.replay_engine.specs.Jobs.{State, start}
use Rattle.replay_engine.specs.Run.{lines_text, run_from, steps_text}
use Rattle.trace_forms.specs.Steps.{Step}
use Rattle.trace_lines.specs.Lines.{finished}
use Rattle.trace_lines.specs.Standing.{StopsInTime}
use Rattle.trace_reader.specs.Trace.{BadLine, trace_of, trace_of_lines}

-- an export was loaded, or refused by its first broken rule
abbrev pub LoadAnswer : List ℕ → Result Loaded ExportFailure → Type 0
LoadAnswer bytes (Ok loaded) = Accepts bytes loaded.container
LoadAnswer bytes (Err export.Unread) = Unit {0}
LoadAnswer bytes (Err (export.Refused rule path)) = first_broken bytes ≡ Some (rule, path)
LoadAnswer bytes (Err export.OutOfMemory) = Unit {0}

-- what was read of an export is as good as the whole: it breaks the same rule first, and where it
-- breaks none it is the whole
pub record EnoughOf (bytes read : List ℕ) : Type 0 where
  pub broken : first_broken read ≡ first_broken bytes
  pub whole : first_broken read ≡ None → read ≡ bytes

-- a status that tells how a run ends
abbrev pub TellsEnd : Status → Type 0
TellsEnd status.Done = Unit {0}
TellsEnd (status.TraceRefused line rule) = Unit {0}
TellsEnd (status.JobLimit step) = Unit {0}
TellsEnd (status.EngineRefused text) = ⊥
TellsEnd status.Usage = ⊥
TellsEnd status.FileFault = ⊥
TellsEnd (status.ExportRefused rule path) = ⊥
TellsEnd status.SinkFault = ⊥
TellsEnd status.OutOfMemory = ⊥

-- the text of the steps of all lines whose LF was read, where these bytes of a trace were
abbrev pub read_text : Container → List ℕ → List ℕ
read_text container read = steps_text container (trace_of_lines (finished read)).steps

-- the whole was written, and these are the limit and the bad line of the run
pub record WroteRun (state : State) (bytes : List ℕ) (limit : Option ℕ) (refusal : Option BadLine)
    (old new : Option (List ℕ)) : Type 0 where
  pub limit_is : (run_from state (trace_of bytes).steps).limit ≡ limit
  pub refusal_is : limit ≡ None → (trace_of bytes).refusal ≡ refusal
  pub text : new ≡ and_then old (lines_text (run_from state (trace_of bytes).steps).lines)

-- one of these steps asks engines for this text, and at least the whole text of the steps before it
-- was written
pub record RefusedAt (state : State) (steps : List Step) (text : List ℕ)
    (old new : Option (List ℕ)) : Type 0 where
  pub before : List Step
  pub step : Step
  pub after : List Step
  pub steps_are : steps ≡ before ++ step ∷ after
  pub asks : Contains (asked_texts step) text
  pub more : List ℕ
  pub taken : new ≡ and_then old (lines_text (run_from state before).lines ++ more)

-- how the steps of a trace's bytes were run from this state on, where these bytes are left of the
-- file
abbrev pub StepsEnd : (result : Result Unit RunFailure) (state after : State) (bytes left : List ℕ)
    (old new : Option (List ℕ)) → Type 0
StepsEnd (Ok done) state after bytes left old new =
    WroteRun state bytes None None old new × (after ≡ (run_from state (trace_of bytes).steps).state)
StepsEnd (Err (run.Refused line rule)) state after bytes left old new =
    WroteRun state bytes None (Some (record { line = line; rule = rule })) old new
StepsEnd (Err (run.EngineRefused text)) state after bytes left old new =
    RefusedAt state (trace_of bytes).steps text old new
StepsEnd (Err (run.JobLimit step)) state after bytes left old new =
    WroteRun state bytes (Some step) None old new
StepsEnd (Err run.Unread) state after bytes left old new =
    (read : List ℕ) → bytes ≡ read ++ left
    → new ≡ and_then old
    (lines_text (run_from state (trace_of_lines (finished read)).steps).lines)
StepsEnd (Err run.Unwritten) state after bytes left old new = Unit {0}
StepsEnd (Err run.OutOfMemory) state after bytes left old new = Unit {0}

-- the same; whatever the answer, a front of the text was written, and no byte was read behind the
-- first that shows that a line is too long
pub record RunsSteps (result : Result Unit RunFailure) (state after : State) (bytes : List ℕ)
    (old new : Option (List ℕ)) (left : List ℕ) : Type 0 where
  pub ends : StepsEnd result state after bytes left old new
  pub front : TookFront old new (lines_text (run_from state (trace_of bytes).steps).lines)
  pub in_time : StopsInTime bytes left

-- how an open trace of these bytes was run over a container, where these bytes are left of the file
pub record RunsOpen (container : Container) (result : Result Unit RunFailure) (bytes : List ℕ)
    (old new : Option (List ℕ)) (left : List ℕ) : Type 0 where
  pub ended : TellsEnd (status_of_run result)
      → (status_of_run result ≡ run_status container (trace_of bytes))
      × (new ≡ and_then old (run_text container (trace_of bytes)))
  pub front : TookFront old new (run_text container (trace_of bytes))
  pub fault_text : result ≡ Err run.Unread → (read : List ℕ) → bytes ≡ read ++ left
      → new ≡ and_then old (read_text container read)
  pub refused : (text : List ℕ) → result ≡ Err (run.EngineRefused text)
      → RefusedAt (start container) (trace_of bytes).steps text old new
  pub in_time : StopsInTime bytes left

-- how the trace of a name was run over a container
pub record RunsTrace (container : Container) (ends : Status) (name : List ℕ)
    (files later : FilesState) (out now : SinkState) : Type 0 where
  -- where the status tells how the run ends, it is the run's, and the whole text was written
  pub ended : (bytes : List ℕ) → Holds files.held name bytes → TellsEnd ends
      → (ends ≡ run_status container (trace_of bytes))
      × (now.taken ≡ and_then out.taken (run_text container (trace_of bytes)))
  -- whatever the status, a front of the text was written
  pub front : (bytes : List ℕ) → Holds files.held name bytes
      → TookFront out.taken now.taken (run_text container (trace_of bytes))
  -- where the file could not be read on, the text of the steps of all lines whose LF was read was
  -- written
  pub fault_text : ends ≡ status.FileFault → (bytes read left : List ℕ)
      → Holds files.held name bytes → IsTrue later.is_open → later.left ≡ Some left
      → bytes ≡ read ++ left
      → now.taken ≡ and_then out.taken (read_text container read)
  -- engines are asked for the text that they refused by a step of the trace, and at least the whole
  -- text of the steps before it was written
  pub refused : (text : List ℕ) → ends ≡ status.EngineRefused text → (bytes : List ℕ)
      → Holds files.held name bytes
      → RefusedAt (start container) (trace_of bytes).steps text out.taken now.taken
  -- no byte was read behind the first that shows that a line is too long
  pub in_time : (bytes : List ℕ) → Holds files.held name bytes → IsTrue later.is_open
      → IfSome later.left (StopsInTime bytes)
  -- nothing was written unless the file was opened
  pub unopened : later.is_open ≡ false → now.taken ≡ out.taken
