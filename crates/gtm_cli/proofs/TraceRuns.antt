-- The run of the trace of a name.
use Rattle.std.proofs.Common.{◌≡◌, refl, ℕ, List, Bool, true, false}
use Rattle.std.specs.Prelude.{IsTrue, Option, Some, None, IfSome, Result, Ok, Err}
use Rattle.std.specs.Result.{is_err}
use Rattle.export_model.specs.declared.container.Container.{Container}
use Rattle.gtm_base.specs.Outside.{FilesState, SinkState, Holds, Opens, ReadsOn}
use Rattle.gtm_base.specs.declared.status.Status.TheVariants as status
use Rattle.gtm_base.proofs.Pieces.{front_none}
use Rattle.gtm_cli.specs.Failures.{is_trace_fault, status_of_run}
use Rattle.gtm_cli.specs.Run.{run_text}
use Rattle.gtm_cli.specs.Running.{RunsOpen, RunsTrace}
use Rattle.gtm_cli.specs.declared.failures.RunFailure.{RunFailure}
use Rattle.gtm_cli.specs.declared.failures.RunFailure.TheVariants as run
use Rattle.gtm_cli.proofs.Failing.{IsTold, told_left}
use Rattle.trace_lines.specs.Standing.{StopsInTime}
use Rattle.trace_reader.specs.Trace.{trace_of}

not_open : (is_open : Bool) → is_open ≡ false → IsTrue is_open → ⊥
not_open true closed open_now = cc closed
not_open false closed open_now = cc open_now

pub closed_by : {T E : Type 0} (result : Result T E) (old new : FilesState) (name : List ℕ)
    → true ≡ is_err result → Opens result old new name → new.is_open ≡ false
closed_by (Ok value) old new name failed opens = absurd (cc failed)
closed_by (Err error) old new name failed opens = opens.closed.0

-- the file could not be opened
pub unopened : (container : Container) (name : List ℕ) (files later : FilesState) (out : SinkState)
    → later.is_open ≡ false → RunsTrace container status.FileFault name files later out out
unopened container name files later out closed = record {
  ended = λ bytes holds tells. absurd tells;
  front = λ bytes holds. front_none out.taken (run_text container (trace_of bytes));
  fault_text =
      λ is bytes read left holds open_now told cut. absurd (not_open later.is_open closed open_now);
  in_time = λ bytes holds open_now. absurd (not_open later.is_open closed open_now);
  refused = λ text is. absurd (cc is);
  unopened = λ closed_now. refl;
}

is_fault_of : (result : Result Unit RunFailure) → status_of_run result ≡ status.FileFault
    → result ≡ Err run.Unread
is_fault_of (Ok done) is = absurd (cc is)
is_fault_of (Err run.Unread) is = refl
is_fault_of (Err (run.Refused line rule)) is = absurd (cc is)
is_fault_of (Err (run.EngineRefused text)) is = absurd (cc is)
is_fault_of (Err (run.JobLimit step)) is = absurd (cc is)
is_fault_of (Err run.Unwritten) is = absurd (cc is)
is_fault_of (Err run.OutOfMemory) is = absurd (cc is)

is_refusal_of : (result : Result Unit RunFailure) (text : List ℕ)
    → status_of_run result ≡ status.EngineRefused text → result ≡ Err (run.EngineRefused text)
is_refusal_of (Ok done) text is = absurd (cc is)
is_refusal_of (Err run.Unread) text is = absurd (cc is)
is_refusal_of (Err (run.Refused line rule)) text is = absurd (cc is)
is_refusal_of (Err (run.EngineRefused other)) text is =
    let same : other ≡ text = cc is in λ i. Err (run.EngineRefused (same i))
is_refusal_of (Err (run.JobLimit step)) text is = absurd (cc is)
is_refusal_of (Err run.Unwritten) text is = absurd (cc is)
is_refusal_of (Err run.OutOfMemory) text is = absurd (cc is)

in_time_at : (bytes : List ℕ) (left : Option (List ℕ))
    → ((rest : List ℕ) → left ≡ Some rest → StopsInTime bytes rest)
    → IfSome left (StopsInTime bytes)
in_time_at bytes None all = tt
in_time_at bytes (Some rest) all = all rest refl

-- it was opened and run
pub ran : (container : Container) (result : Result Unit RunFailure) (name : List ℕ)
    (files middle later : FilesState) (out now : SinkState)
    → ((bytes : List ℕ) → Holds files.held name bytes → middle.left ≡ Some bytes)
    → ReadsOn is_trace_fault result middle later
    → ((bytes left : List ℕ) → middle.left ≡ Some bytes → later.left ≡ Some left
    → RunsOpen container result bytes out.taken now.taken left)
    → RunsTrace container (status_of_run result) name files later out now
ran container result name files middle later out now all reads runs =
    let at : (bytes : List ℕ) → Holds files.held name bytes → IsTold later.left =
    λ bytes holds. told_left middle.left later.left bytes (all bytes holds) reads.read in
    record {
      ended =
          λ bytes holds tells.
          (runs bytes (at bytes holds).left (all bytes holds) (at bytes holds).told).ended tells;
      front =
          λ bytes holds.
          (runs bytes (at bytes holds).left (all bytes holds) (at bytes holds).told).front;
      fault_text =
          λ is bytes read left holds open_now told cut.
          (runs bytes left (all bytes holds) told).fault_text (is_fault_of result is) read cut;
      refused =
          λ text is bytes holds.
          (runs bytes (at bytes holds).left (all bytes holds) (at bytes holds).told).refused text
          (is_refusal_of result text is);
      in_time =
          λ bytes holds open_now.
          in_time_at bytes later.left
          (λ rest told. (runs bytes rest (all bytes holds) told).in_time);
      unopened = λ closed. absurd (not_open later.is_open closed reads.opened);
    }
