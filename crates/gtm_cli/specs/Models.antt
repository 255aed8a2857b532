-- What the bytes of an export and of a trace say of a run.
use Rattle.std.specs.Prelude.{◌≡◌, ℕ, List, [], Option, Some, None}
use Rattle.export_model.specs.declared.container.Container.{Container}
use Rattle.export_reader.specs.Container.{container_in}
use Rattle.export_reader.specs.FirstBroken.{first_broken}
use Rattle.gtm_base.specs.Outside.{and_then}
use Rattle.gtm_base.specs.declared.status.Status.{Status}
use Rattle.gtm_base.specs.declared.status.Status.TheVariants.{ExportRefused, OutOfMemory}
use Rattle.gtm_cli.specs.Run.{run_status, run_text}
use Rattle.trace_reader.specs.Trace.{Trace, trace_of}

-- an export breaks no rule and stands for this container
pub record Accepts (export : List ℕ) (container : Container) : Type 0 where
  pub unbroken : first_broken export ≡ None
  pub container_is : container_in export ≡ Some container

-- the status over an export's first broken rule, or its container: there is one where no rule is
-- broken
abbrev pub status_over : Option (ℕ × List ℕ) → Option Container → Trace → Status
status_over (Some refusal) container trace = ExportRefused refusal.0 refusal.1
status_over None (Some container) trace = run_status container trace
status_over None None trace = OutOfMemory

-- the same of the text
abbrev pub text_over : Option (ℕ × List ℕ) → Option Container → Trace → List ℕ
text_over (Some refusal) container trace = []
text_over None (Some container) trace = run_text container trace
text_over None None trace = []

-- the status of a run over these bytes of the two files
abbrev pub model_status : List ℕ → List ℕ → Status
model_status export trace = status_over (first_broken export) (container_in export) (trace_of trace)

-- its text
abbrev pub model_text : List ℕ → List ℕ → List ℕ
model_text export trace = text_over (first_broken export) (container_in export) (trace_of trace)

-- the status and what was taken are the model's
pub record IsModels (export trace : List ℕ) (status : Status) (old new : Option (List ℕ)) : Type 0
  where
    pub status_is : status ≡ model_status export trace
    pub text_is : new ≡ and_then old (model_text export trace)
