-- From an export that was not loaded to what `replay` promises.
use Rattle.std.proofs.Common.{◌≡◌, ◌∙◌, ap, sym, refl, ℕ, ◌+◌, ◌<◌, List, [], ◌∷◌, Bool}
use Rattle.std.proofs.Common.{arith, inl, inr}
use Rattle.std.specs.Prelude.{IsTrue, Option, Some, None, IfSome, Result, Err}
use Rattle.export_reader.specs.FirstBroken.{first_broken}
use Rattle.export_reader.specs.Container.{container_in}
use Rattle.export_reader.specs.declared.loading.Loaded.{Loaded}
use Rattle.export_reader.specs.declared.top.TheConstants.{MAX_EXPORT}
use Rattle.gtm_base.specs.Causes.{Rose}
use Rattle.gtm_base.specs.Engines.{EnginesState}
use Rattle.gtm_base.specs.Outside.{FilesState, SinkState, Holdings, Holds, Lacks, ReadWithin}
use Rattle.gtm_base.specs.Outside.{and_then}
use Rattle.gtm_base.proofs.Pieces.{and_then-nil, front_none}
use Rattle.gtm_cli.specs.Failures.{is_export_fault, status_of_export}
use Rattle.gtm_cli.specs.Models.{model_text, status_over, text_over}
use Rattle.gtm_cli.specs.Opening.{OpensFile}
use Rattle.gtm_cli.specs.Replays.{HasTraceOpen, Replays}
use Rattle.gtm_cli.specs.Running.{LoadAnswer}
use Rattle.gtm_cli.specs.Words.{Names}
use Rattle.gtm_cli.specs.declared.failures.ExportFailure.{ExportFailure}
use Rattle.gtm_cli.specs.declared.failures.ExportFailure.TheVariants as export
use Rattle.gtm_cli.proofs.HandedNames.{handed_one}
use Rattle.gtm_cli.proofs.Sames.{some_same}
use Rattle.trace_reader.specs.Trace.{trace_of}

-- a name that is held is not lacking
pub not_lacking : (held : Option Holdings) (name bytes : List ℕ) → Holds held name bytes
    → Lacks held name → ⊥
not_lacking held name bytes holds lacks =
    let one : holds.holdings ≡ lacks.holdings = some_same (sym holds.told ∙ lacks.told) in
    let none : Some bytes ≡ None = sym holds.bytes_are ∙ ap (λ h. h name) one ∙ lacks.absent in
    cc none

pub not_risen : (before now : ℕ) → before ≡ 0 → now ≡ 0 → Rose before now → ⊥
not_risen before now zero still rose = let more = rose.more in absurd (omega arith)

pub risen : (before now : ℕ) → before ≡ 0 → Rose before now → 0 < now
risen before now zero rose = let more = rose.more in omega arith

open_name_at : (held : Option Holdings) (holdings : Holdings) (open_name : Option (List ℕ))
    (name : List ℕ) → held ≡ Some holdings → IfSome held (λ h. open_name ≡ Some name)
    → open_name ≡ Some name
open_name_at None holdings open_name name told is = absurd (cc told)
open_name_at (Some h) holdings open_name name told is = is

-- the export is open, and so the trace is not
pub trace_not_open : {T E : Type 0} (is_fault : E → Bool) (result : Result T E)
    (files later : FilesState) (names : Names) (holdings : Holdings) → files.held ≡ Some holdings
    → OpensFile is_fault result files later names.export → HasTraceOpen later names → ⊥
trace_not_open is_fault result files later names holdings told opens trace =
    trace.apart
    (some_same
    (sym (open_name_at files.held holdings later.open_name names.export told
    (opens.open_name trace.is_open)) ∙ trace.open_name))

module _ (names : Names) (files later : FilesState) (out : SinkState) (engines : EnginesState)
    (zero : files.faults ≡ 0)
  where
    abbrev Within : Type 0
    Within =
        (bytes : List ℕ) → Holds files.held names.export bytes → IsTrue later.is_open
        → ReadWithin (MAX_EXPORT + 1) (Some bytes) later.left

    abbrev Opened : ExportFailure → Type 0
    Opened failure = OpensFile {T = Loaded} is_export_fault (Err failure) files later names.export

    never_unread : Opened export.Unread → (e : List ℕ) → Holds files.held names.export e
        → later.faults ≡ 0 → ⊥
    never_unread opens e holds still =
        elim (opens.failed refl) [
          | inl rose ↦ not_risen files.faults later.faults zero still rose
          | inr lacks ↦ not_lacking
              files.held names.export e holds lacks
        ]

    unread : Opened export.Unread → Within
        → Replays names (status_of_export export.Unread) files later out out engines
    unread opens within = record {
      headline = λ e t both still written none. absurd (never_unread opens e both.export_is still);
      ended = λ e t both tells. absurd tells;
      done = λ is. absurd (cc is);
      refused = λ is. absurd is;
      export_refused = λ e holds rule path is. absurd (cc is);
      refuses_export = λ e holds rule path broken still. absurd (never_unread opens e holds still);
      file_fault =
          λ is. elim (opens.failed refl) [
            | inl rose ↦ inl (risen files.faults later.faults zero rose)
            | inr lacks ↦ inr (inl lacks)
          ];
      missing_export = λ lacks. inr refl;
      missing_trace = λ lacks. inr (inl refl);
      engine_refused = λ text is. absurd (cc is);
      sink_fault = λ is. absurd (cc is);
      not_usage = λ is. cc is;
      front = λ e t both. front_none out.taken (model_text e t);
      nothing = λ unrun. refl;
      refused_nothing = λ rule path is. refl;
      fault_text =
          λ is open_trace e t read left container both accepts told cut.
          absurd (trace_not_open is_export_fault _ files later names both.export_is.holdings
          both.export_is.told opens open_trace);
      asked_for = λ text is e t container both accepted. absurd (cc is);
      opened = handed_one files.names later.names names.export (names.trace ∷ []) opens.names;
      refused_opened =
          λ e refusal holds broken. handed_one files.names later.names names.export [] opens.names;
      refused_read = λ e refusal holds broken open_now. within e holds open_now;
      trace_read =
          λ open_trace t holds.
          absurd (trace_not_open is_export_fault _ files later names holds.holdings holds.told opens
          open_trace);
    }

    refused : (rule : ℕ) (path : List ℕ) → Opened (export.Refused rule path) → Within
        → ((e : List ℕ) → Holds files.held names.export e → first_broken e ≡ Some (rule, path))
        → Replays names (status_of_export (export.Refused rule path)) files later out out engines
    refused rule path opens within broken_by = record {
      headline = λ e t both still written none. inr (record {
        status_is =
            sym (ap (λ b. status_over b (container_in e) (trace_of t)) (broken_by e both.export_is));
        text_is =
            and_then-nil out.taken
            ∙ sym (ap (λ b. and_then out.taken (text_over b (container_in e) (trace_of t)))
            (broken_by e both.export_is));
      });
      ended = λ e t both tells. absurd tells;
      done = λ is. absurd (cc is);
      refused = λ is. opens.kept refl ∙ zero;
      export_refused = λ e holds other place is.
          let same_rule : rule ≡ other = cc is in
          let same_path : path ≡ place = cc is in
          broken_by e holds ∙ (λ i. Some (same_rule i, same_path i));
      refuses_export = λ e holds other place broken still.
          let same : (rule, path) ≡ (other, place) = some_same (sym (broken_by e holds) ∙ broken) in
          inr (ap (λ r. status_of_export (export.Refused r.0 r.1)) same);
      file_fault = λ is. absurd (cc is);
      missing_export = λ lacks. let failed = (opens.missing lacks).0 in absurd (cc failed);
      missing_trace = λ lacks. inr (inr (rule, path, refl));
      engine_refused = λ text is. absurd (cc is);
      sink_fault = λ is. absurd (cc is);
      not_usage = λ is. cc is;
      front = λ e t both. front_none out.taken (model_text e t);
      nothing = λ unrun. refl;
      refused_nothing = λ other place is. refl;
      fault_text = λ is open_trace e t read left container both accepts told cut. absurd (cc is);
      asked_for = λ text is e t container both accepted. absurd (cc is);
      opened = handed_one files.names later.names names.export (names.trace ∷ []) opens.names;
      refused_opened =
          λ e refusal holds broken. handed_one files.names later.names names.export [] opens.names;
      refused_read = λ e refusal holds broken open_now. within e holds open_now;
      trace_read =
          λ open_trace t holds.
          absurd (trace_not_open is_export_fault _ files later names holds.holdings holds.told opens
          open_trace);
    }

    no_memory : Opened export.OutOfMemory → Within
        → Replays names (status_of_export export.OutOfMemory) files later out out engines
    no_memory opens within = record {
      headline = λ e t both still written none. inl refl;
      ended = λ e t both tells. absurd tells;
      done = λ is. absurd (cc is);
      refused = λ is. absurd is;
      export_refused = λ e holds rule path is. absurd (cc is);
      refuses_export = λ e holds rule path broken still. inl refl;
      file_fault = λ is. absurd (cc is);
      missing_export = λ lacks. inl refl;
      missing_trace = λ lacks. inl refl;
      engine_refused = λ text is. absurd (cc is);
      sink_fault = λ is. absurd (cc is);
      not_usage = λ is. cc is;
      front = λ e t both. front_none out.taken (model_text e t);
      nothing = λ unrun. refl;
      refused_nothing = λ rule path is. refl;
      fault_text = λ is open_trace e t read left container both accepts told cut. absurd (cc is);
      asked_for = λ text is e t container both accepted. absurd (cc is);
      opened = handed_one files.names later.names names.export (names.trace ∷ []) opens.names;
      refused_opened =
          λ e refusal holds broken. handed_one files.names later.names names.export [] opens.names;
      refused_read = λ e refusal holds broken open_now. within e holds open_now;
      trace_read =
          λ open_trace t holds.
          absurd (trace_not_open is_export_fault _ files later names holds.holdings holds.told opens
          open_trace);
    }

    -- an export that was not loaded
    pub not_loaded : (failure : ExportFailure) → Opened failure → Within
        → ((e : List ℕ) → Holds files.held names.export e → LoadAnswer e (Err failure))
        → Replays names (status_of_export failure) files later out out engines
    not_loaded export.Unread opens within answer = unread opens within
    not_loaded (export.Refused rule path) opens within answer = refused rule path opens within answer
    not_loaded export.OutOfMemory opens within answer = no_memory opens within
