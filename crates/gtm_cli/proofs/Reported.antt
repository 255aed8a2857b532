-- What is promised where memory was wanting for the line of the status.
use Rattle.std.proofs.Common.{◌≡◌, subst, sym, refl, inl, inr}
use Rattle.std.specs.Prelude.{◌⊎◌}
use Rattle.gtm_base.specs.Engines.{EnginesState}
use Rattle.gtm_base.specs.Outside.{FilesState, SinkState}
use Rattle.gtm_base.specs.declared.status.Status.{Status}
use Rattle.gtm_base.specs.declared.status.Status.TheVariants as status
use Rattle.gtm_cli.specs.Replays.{Replays}
use Rattle.gtm_cli.specs.Words.{Names}

no_memory : (names : Names) (ends : Status) (files later : FilesState) (out now : SinkState)
    (engines : EnginesState)
    → Replays names ends files later out now engines → Replays names status.OutOfMemory files later out now engines
no_memory names ends files later out now engines replays = record {
  headline = λ e t both still written none. inl refl;
  ended = λ e t both tells. absurd tells;
  done = λ is. absurd (cc is);
  refused = λ is. absurd is;
  export_refused = λ e holds rule path is. absurd (cc is);
  refuses_export = λ e holds rule path broken still. inl refl;
  file_fault = λ is. absurd (cc is);
  missing_export = λ lacks. inl refl;
  missing_trace = λ lacks. inl refl;
  engine_refused = λ text is. absurd (cc is);
  sink_fault = λ is. absurd (cc is);
  not_usage = λ is. cc is;
  front = replays.front;
  nothing = replays.nothing;
  refused_nothing = λ rule path is. absurd (cc is);
  fault_text = λ is open_trace e t read left container both accepts told cut. absurd (cc is);
  asked_for = λ text is e t container both accepts. absurd (cc is);
  opened = replays.opened;
  refused_opened = replays.refused_opened;
  refused_read = replays.refused_read;
  trace_read = replays.trace_read;
}

-- the status is that of the run, or memory was wanting
pub reported : (names : Names) (answer ends : Status) (files later : FilesState)
    (out now : SinkState) (engines : EnginesState) → (answer ≡ ends) ⊎ (answer ≡ status.OutOfMemory)
    → Replays names ends files later out now engines
    → Replays names answer files later out now engines
reported names answer ends files later out now engines (inl is) replays =
    subst (λ s. Replays names s files later out now engines) (sym is) replays
reported names answer ends files later out now engines (inr is) replays =
    subst (λ s. Replays names s files later out now engines) (sym is)
    (no_memory names ends files later out now engines replays)
