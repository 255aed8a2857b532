-- From a trace that was run to what `replay` promises.
use Rattle.std.proofs.Common.{◌≡◌, ◌∙◌, ap, sym, subst, refl, ℕ, ◌<◌, List, true}
use Rattle.std.proofs.Common.{false, inl, inr}
use Rattle.std.specs.Prelude.{◌⊎◌, Option, Some, None, Result, Ok, Err, encode_utf8_all}
use Rattle.export_model.specs.declared.container.Container.{Container}
use Rattle.export_reader.specs.FirstBroken.{first_broken}
use Rattle.export_reader.specs.declared.loading.Loaded.{Loaded}
use Rattle.gtm_base.specs.Causes.{Counts, has_failed}
use Rattle.gtm_base.specs.Engines.{EnginesState, HandsOn}
use Rattle.gtm_base.specs.Outside.{FilesState, SinkState, Holds, Lacks, TookFront}
use Rattle.gtm_base.specs.Outside.{and_then}
use Rattle.gtm_base.specs.declared.status.Status.{Status}
use Rattle.gtm_base.specs.declared.status.Status.TheVariants as status
use Rattle.gtm_cli.specs.Failures.{is_export_fault, is_out_fault, is_trace_fault, status_of_run}
use Rattle.gtm_cli.specs.Failures.{trace_refusal}
use Rattle.gtm_cli.specs.Models.{Accepts, IsModels, status_over, text_over}
use Rattle.gtm_cli.specs.Opening.{OpensFile}
use Rattle.gtm_cli.specs.Replays.{HoldBoth, IsRefusal, IsUnrun, LacksOne, Replays, refuses}
use Rattle.gtm_cli.specs.Replays.{no_export, no_trace, unopened}
use Rattle.gtm_cli.specs.Running.{RefusedAt, RunsTrace, TellsEnd, read_text}
use Rattle.gtm_cli.specs.Words.{Names}
use Rattle.gtm_cli.specs.declared.failures.RunFailure.{RunFailure}
use Rattle.gtm_cli.specs.declared.failures.RunFailure.TheVariants as run
use Rattle.gtm_cli.proofs.HandedNames.{handed_two}
use Rattle.gtm_cli.proofs.NotLoaded.{not_lacking, not_risen, risen}
use Rattle.gtm_cli.proofs.Sames.{some_same}
use Rattle.replay_engine.specs.Jobs.{start}
use Rattle.trace_reader.specs.Trace.{trace_of}

module _ (names : Names) (files middle later : FilesState) (out now : SinkState)
    (engines engines_later : EnginesState) (zero : files.faults ≡ 0) (out_zero : out.faults ≡ 0)
    (engines_zero : engines.count ≡ 0) (loaded : Loaded)
    (opens : OpensFile is_export_fault (Ok loaded) files middle names.export)
    (accepts : (e : List ℕ) → Holds files.held names.export e → Accepts e loaded.container)
  where
    -- the files still hold what they held
    abbrev still_holds : (name bytes : List ℕ) → Holds files.held name bytes
        → Holds middle.held name bytes
    still_holds name bytes holds =
        record {
          holdings =
              holds.holdings;
          told = opens.held ∙ holds.told;
          bytes_are = holds.bytes_are;
        }

    abbrev then_lacked : (name : List ℕ) → Lacks middle.held name → Lacks files.held name
    then_lacked name lacks =
        record {
          holdings =
              lacks.holdings;
          told = sym opens.held ∙ lacks.told;
          absent = lacks.absent;
        }

    abbrev still_lacks : (name : List ℕ) → Lacks files.held name → Lacks middle.held name
    still_lacks name lacks =
        record { holdings = lacks.holdings; told = opens.held ∙ lacks.told; absent = lacks.absent }

    was_there : Lacks files.held names.export → ⊥
    was_there lacks = let failed = (opens.missing lacks).0 in cc failed

    middle_zero : middle.faults ≡ 0
    middle_zero = opens.kept refl ∙ zero

    models : (e t : List ℕ) (ends : Status) → HoldBoth files names e t
        → RunsTrace loaded.container ends names.trace middle later out now → TellsEnd ends
        → IsModels e t ends out.taken now.taken
    models e t ends both runs tells =
        let accepted = accepts e both.export_is in
        let end = runs.ended t (still_holds names.trace t both.trace_is) tells in
        record {
          status_is =
              end.0 ∙ sym
              (λ i. status_over (accepted.unbroken i) (accepted.container_is i) (trace_of t));
          text_is =
              end.1 ∙ sym
              (λ i. and_then out.taken
              (text_over (accepted.unbroken i) (accepted.container_is i) (trace_of t)));
        }

    -- files that tell that they lack the trace hold the export
    lacks_trace : (lacks : Lacks files.held names.trace) (bytes : Option (List ℕ))
        → lacks.holdings names.export ≡ bytes → LacksOne files names
    lacks_trace lacks None is =
        absurd (was_there (record { holdings = lacks.holdings; told = lacks.told; absent = is }))
    lacks_trace lacks (Some bytes) is =
        let holds : Holds files.held names.export bytes =
        record { holdings = lacks.holdings; told = lacks.told; bytes_are = is } in
        inr (bytes, holds, (accepts bytes holds).unbroken, lacks)

    headline_of : (result : Result Unit RunFailure)
        → OpensFile is_trace_fault result middle later names.trace
        → Counts (has_failed is_out_fault result) out.faults now.faults
        → HandsOn trace_refusal result engines engines_later
        → RunsTrace loaded.container (status_of_run result) names.trace middle later out now
        → (e t : List ℕ) → HoldBoth files names e t → later.faults ≡ 0 → now.faults ≡ 0
        → engines_later.count ≡ 0
        → (status_of_run result ≡ status.OutOfMemory)
        ⊎ IsModels e t (status_of_run result) out.taken now.taken
    headline_of (Ok done) ends counted hands runs e t both still written none =
        inr (models e t status.Done both runs tt)
    headline_of (Err run.Unread) ends counted hands runs e t both still written none =
        absurd (elim (ends.failed refl) [
          | inl rose ↦ not_risen middle.faults later.faults middle_zero still rose
          | inr lacks ↦
              not_lacking files.held names.trace t both.trace_is (then_lacked names.trace lacks)
        ])
    headline_of (Err (run.Refused line rule)) ends counted hands runs e t both still written none =
        inr (models e t (status.TraceRefused line rule) both runs tt)
    headline_of (Err (run.EngineRefused text)) ends counted hands runs e t both still written none =
        absurd (not_risen engines.count engines_later.count engines_zero none hands.left.counted)
    headline_of (Err (run.JobLimit step)) ends counted hands runs e t both still written none =
        inr (models e t (status.JobLimit step) both runs tt)
    headline_of (Err run.Unwritten) ends counted hands runs e t both still written none =
        absurd (not_risen out.faults now.faults out_zero written counted)
    headline_of (Err run.OutOfMemory) ends counted hands runs e t both still written none = inl refl

    done_of : (result : Result Unit RunFailure)
        → OpensFile is_trace_fault result middle later names.trace
        → Counts (has_failed is_out_fault result) out.faults now.faults
        → HandsOn trace_refusal result engines engines_later → status_of_run result ≡ status.Done
        → (later.faults ≡ 0) × (now.faults ≡ 0) × (engines_later.count ≡ 0)
    done_of (Ok done) ends counted hands is = (
      ends.kept refl ∙ middle_zero,
      counted ∙ out_zero,
      ap (λ state. state.count) hands.left.kept ∙ engines_zero,
    )
    done_of (Err run.Unread) ends counted hands is = absurd (cc is)
    done_of (Err (run.Refused line rule)) ends counted hands is = absurd (cc is)
    done_of (Err (run.EngineRefused text)) ends counted hands is = absurd (cc is)
    done_of (Err (run.JobLimit step)) ends counted hands is = absurd (cc is)
    done_of (Err run.Unwritten) ends counted hands is = absurd (cc is)
    done_of (Err run.OutOfMemory) ends counted hands is = absurd (cc is)

    refused_of : (result : Result Unit RunFailure)
        → OpensFile is_trace_fault result middle later names.trace → IsRefusal (status_of_run result)
        → later.faults ≡ 0
    refused_of (Ok done) ends is = absurd is
    refused_of (Err run.Unread) ends is = absurd is
    refused_of (Err (run.Refused line rule)) ends is = ends.kept refl ∙ middle_zero
    refused_of (Err (run.EngineRefused text)) ends is = absurd is
    refused_of (Err (run.JobLimit step)) ends is = absurd is
    refused_of (Err run.Unwritten) ends is = absurd is
    refused_of (Err run.OutOfMemory) ends is = absurd is

    never_refused : (result : Result Unit RunFailure) (rule : ℕ) (path : List ℕ)
        → status_of_run result ≡ status.ExportRefused rule path → ⊥
    never_refused (Ok done) rule path is = cc is
    never_refused (Err run.Unread) rule path is = cc is
    never_refused (Err (run.Refused line other)) rule path is = cc is
    never_refused (Err (run.EngineRefused text)) rule path is = cc is
    never_refused (Err (run.JobLimit step)) rule path is = cc is
    never_refused (Err run.Unwritten) rule path is = cc is
    never_refused (Err run.OutOfMemory) rule path is = cc is

    never_usage : (result : Result Unit RunFailure) → status_of_run result ≡ status.Usage → ⊥
    never_usage (Ok done) is = cc is
    never_usage (Err run.Unread) is = cc is
    never_usage (Err (run.Refused line other)) is = cc is
    never_usage (Err (run.EngineRefused text)) is = cc is
    never_usage (Err (run.JobLimit step)) is = cc is
    never_usage (Err run.Unwritten) is = cc is
    never_usage (Err run.OutOfMemory) is = cc is

    fault_of : (result : Result Unit RunFailure)
        → OpensFile is_trace_fault result middle later names.trace
        → status_of_run result ≡ status.FileFault → (0 < later.faults) ⊎ LacksOne files names
    fault_of (Ok done) ends is = absurd (cc is)
    fault_of (Err run.Unread) ends is =
        elim (ends.failed refl) [
          | inl rose ↦ inl (risen middle.faults later.faults middle_zero rose)
          | inr lacks ↦ inr
              (lacks_trace (then_lacked names.trace lacks) (lacks.holdings names.export) refl)
        ]
    fault_of (Err (run.Refused line rule)) ends is = absurd (cc is)
    fault_of (Err (run.EngineRefused text)) ends is = absurd (cc is)
    fault_of (Err (run.JobLimit step)) ends is = absurd (cc is)
    fault_of (Err run.Unwritten) ends is = absurd (cc is)
    fault_of (Err run.OutOfMemory) ends is = absurd (cc is)

    sink_of : (result : Result Unit RunFailure)
        → Counts (has_failed is_out_fault result) out.faults now.faults
        → status_of_run result ≡ status.SinkFault → 0 < now.faults
    sink_of (Ok done) counted is = absurd (cc is)
    sink_of (Err run.Unread) counted is = absurd (cc is)
    sink_of (Err (run.Refused line rule)) counted is = absurd (cc is)
    sink_of (Err (run.EngineRefused text)) counted is = absurd (cc is)
    sink_of (Err (run.JobLimit step)) counted is = absurd (cc is)
    sink_of (Err run.Unwritten) counted is = risen out.faults now.faults out_zero counted
    sink_of (Err run.OutOfMemory) counted is = absurd (cc is)

    engine_of : (result : Result Unit RunFailure)
        → HandsOn trace_refusal result engines engines_later → (text : List ℕ)
        → status_of_run result ≡ status.EngineRefused text
        → (0 < engines_later.count) × (engines_later.last ≡ encode_utf8_all text)
    engine_of (Ok done) hands text is = absurd (cc is)
    engine_of (Err run.Unread) hands text is = absurd (cc is)
    engine_of (Err (run.Refused line rule)) hands text is = absurd (cc is)
    engine_of (Err (run.EngineRefused other)) hands text is =
        let same : other ≡ text = cc is in (
          risen engines.count engines_later.count engines_zero hands.left.counted,
          hands.left.told ∙ ap encode_utf8_all same,
        )
    engine_of (Err (run.JobLimit step)) hands text is = absurd (cc is)
    engine_of (Err run.Unwritten) hands text is = absurd (cc is)
    engine_of (Err run.OutOfMemory) hands text is = absurd (cc is)

    missing_of : (result : Result Unit RunFailure) → has_failed is_trace_fault result ≡ true
        → status_of_run result ≡ status.FileFault
    missing_of (Ok done) failed = absurd (cc failed)
    missing_of (Err run.Unread) failed = refl
    missing_of (Err (run.Refused line rule)) failed = absurd (cc failed)
    missing_of (Err (run.EngineRefused text)) failed = absurd (cc failed)
    missing_of (Err (run.JobLimit step)) failed = absurd (cc failed)
    missing_of (Err run.Unwritten) failed = absurd (cc failed)
    missing_of (Err run.OutOfMemory) failed = absurd (cc failed)

    never_broken : (e : List ℕ) (refusal : ℕ × List ℕ) → Holds files.held names.export e
        → first_broken e ≡ Some refusal → ⊥
    never_broken e refusal holds broken =
        let never : None ≡ Some refusal = sym (accepts e holds).unbroken ∙ broken in cc never

    nothing_of : (ends : Status) → RunsTrace loaded.container ends names.trace middle later out now
        → (Lacks middle.held names.trace → later.is_open ≡ false) → IsUnrun files later names
        → now.taken ≡ out.taken
    nothing_of ends runs missing (refuses e refusal holds broken) =
        absurd (never_broken e refusal holds broken)
    nothing_of ends runs missing (no_export lacks) = absurd (was_there lacks)
    nothing_of ends runs missing (no_trace lacks) =
        runs.unopened (missing (still_lacks names.trace lacks))
    nothing_of ends runs missing (unopened closed) = runs.unopened closed

    same_container : (e : List ℕ) (container : Container) → Holds files.held names.export e
        → Accepts e container → loaded.container ≡ container
    same_container e container holds accepted =
        some_same (sym (accepts e holds).container_is ∙ accepted.container_is)

    -- a trace that was run
    pub was_run : (result : Result Unit RunFailure)
        → OpensFile is_trace_fault result middle later names.trace
        → Counts (has_failed is_out_fault result) out.faults now.faults
        → HandsOn trace_refusal result engines engines_later
        → RunsTrace loaded.container (status_of_run result) names.trace middle later out now
        → Replays names (status_of_run result) files later out now engines_later
    was_run result ends counted hands runs = record {
      headline = headline_of result ends counted hands runs;
      ended = λ e t both tells. models e t (status_of_run result) both runs tells;
      done = done_of result ends counted hands;
      refused = refused_of result ends;
      export_refused = λ e holds rule path is. absurd (never_refused result rule path is);
      refuses_export =
          λ e holds rule path broken still. absurd (never_broken e (rule, path) holds broken);
      file_fault = fault_of result ends;
      missing_export = λ lacks. absurd (was_there lacks);
      missing_trace =
          λ lacks. inr (inl (missing_of result (ends.missing (still_lacks names.trace lacks)).0));
      engine_refused = engine_of result hands;
      sink_fault = sink_of result counted;
      not_usage = never_usage result;
      front = λ e t both.
          let accepted = accepts e both.export_is in
          subst (TookFront out.taken now.taken)
          (sym (λ i. text_over (accepted.unbroken i) (accepted.container_is i) (trace_of t)))
          (runs.front t (still_holds names.trace t both.trace_is));
      nothing = nothing_of (status_of_run result) runs (λ lacks. (ends.missing lacks).1);
      refused_nothing = λ rule path is. absurd (never_refused result rule path is);
      fault_text = λ is open_trace e t read left container both accepted told cut.
          subst (λ c. now.taken ≡ and_then out.taken (read_text c read))
          (same_container e container both.export_is accepted)
          (runs.fault_text is t read left (still_holds names.trace t both.trace_is) open_trace.is_open
          told cut);
      asked_for = λ text is e t container both accepted.
          subst (λ c. RefusedAt (start c) (trace_of t).steps text out.taken now.taken)
          (same_container e container both.export_is accepted)
          (runs.refused text is t (still_holds names.trace t both.trace_is));
      opened =
          handed_two files.names middle.names later.names names.export names.trace opens.names
          ends.names;
      refused_opened = λ e refusal holds broken. absurd (never_broken e refusal holds broken);
      refused_read = λ e refusal holds broken open_now. absurd (never_broken e refusal holds broken);
      trace_read =
          λ open_trace t holds. runs.in_time t (still_holds names.trace t holds) open_trace.is_open;
    }
