-- The run of an open trace: the warnings, the steps, and the closing lines.
use Rattle.std.proofs.Common.{◌≡◌, ◌∙◌, ap, sym, subst, refl, ℕ, ◌-◌, List, [], ◌∷◌, ◌++◌}
use Rattle.std.proofs.Common.{length, length-append, true, false, append-nil, arith}
use Rattle.std.specs.Prelude.{Option, Some, None, Result, Ok, Err, IfErr, take}
use Rattle.export_model.specs.declared.container.Container.{Container}
use Rattle.gtm_base.specs.Outside.{SinkState, TookFront, Writes, and_then}
use Rattle.gtm_base.proofs.Pieces.{and_then-append, and_then-nil, front_after, front_of_more}
use Rattle.gtm_cli.specs.Failures.{RefusesNone, is_out_fault, is_trace_fault, status_of_run}
use Rattle.gtm_cli.specs.Run.{closing_text, run_status, run_text, status_at}
use Rattle.gtm_cli.specs.Running.{RefusedAt, RunsOpen, RunsSteps, TellsEnd, WroteRun}
use Rattle.gtm_cli.specs.declared.failures.RunFailure.{RunFailure}
use Rattle.gtm_cli.specs.declared.failures.RunFailure.TheVariants as run
use Rattle.replay_engine.specs.Jobs.{State, start}
use Rattle.replay_engine.specs.Run.{closing, lines_text, run_of, steps_text, warnings}
use Rattle.trace_lines.specs.Lines.{shows_too_long, some_too_long}
use Rattle.trace_lines.specs.Standing.{StopsInTime}
use Rattle.trace_lines.proofs.Cuts.{lines-nil}
use Rattle.trace_reader.specs.Trace.{BadLine, trace_of}

-- nothing was read
nothing_read : (bytes read : List ℕ) → bytes ≡ read ++ bytes → read ≡ []
nothing_read bytes [] is = refl
nothing_read bytes (first ∷ read) is = let long = ap length is in
    let more = length-append (first ∷ read) bytes in absurd (omega arith)

pub in_time_unread : (bytes left : List ℕ) → bytes ≡ left → StopsInTime bytes left
in_time_unread bytes left same = record {
  unshown = λ read is.
      let none : read ≡ [] = nothing_read bytes read (is ∙ ap (λ l. read ++ l) (sym same)) in
      ap (λ r. shows_too_long (take (length r - 1) r)) none ∙ ap (some_too_long 0) lines-nil;
}

-- a failure that is none of the files is no unread trace
not_unread : (failure : RunFailure) → is_trace_fault failure ≡ false → failure ≡ run.Unread → ⊥
not_unread failure stays is = let true_is : is_trace_fault failure ≡ true = ap is_trace_fault is in
    let never : false ≡ true = sym stays ∙ true_is in cc never

not_refused : (failure : RunFailure) (text : List ℕ) → RefusesNone failure
    → failure ≡ run.EngineRefused text → ⊥
not_refused failure text unrefused is = subst RefusesNone is unrefused

-- the warnings were not written
pub unbegun : (container : Container) (result : Result Unit RunFailure) (failure : RunFailure)
    (bytes left : List ℕ) (old new : SinkState) → result ≡ Err failure → bytes ≡ left
    → is_trace_fault failure ≡ false → (TellsEnd (status_of_run (Err failure)) → ⊥)
    → RefusesNone failure
    → TookFront old.taken new.taken (lines_text (warnings container))
    → RunsOpen container result bytes old.taken new.taken left
unbegun container result failure bytes left old new is same stays tells unrefused front =
    subst (λ r. RunsOpen container r bytes old.taken new.taken left) (sym is) (record {
      ended = λ end. absurd (tells end);
      front = front_of_more old.taken new.taken [] (run_text container (trace_of bytes)) front;
      fault_text = λ unread. absurd (not_unread failure stays (cc unread));
      refused = λ text refused. absurd (not_refused failure text unrefused (cc refused));
      in_time = in_time_unread bytes left same;
    })

-- how the run ends where the whole text of the steps was written
ends_at : (container : Container) (bytes : List ℕ) (limit : Option ℕ) (refusal : Option BadLine)
    (old new : Option (List ℕ)) → WroteRun (start container) bytes limit refusal old new
    → run_status container (trace_of bytes) ≡ status_at limit (trace_of bytes).refusal
ends_at container bytes limit refusal old new wrote =
    ap (λ l. status_at l (trace_of bytes).refusal) wrote.limit_is

text_at : (container : Container) (bytes : List ℕ) (limit : Option ℕ) (refusal : Option BadLine)
    (old new : Option (List ℕ)) → WroteRun (start container) bytes limit refusal old new
    → closing_text limit (trace_of bytes).refusal (run_of container (trace_of bytes).steps).state
    ≡ [] → new ≡ and_then old (run_text container (trace_of bytes))
text_at container bytes limit refusal old new wrote none =
    wrote.text
    ∙ ap (and_then old) (sym (append-nil (steps_text container (trace_of bytes).steps))
    ∙ ap (λ more. steps_text container (trace_of bytes).steps ++ more)
    (sym none ∙ sym
    (ap (λ l. closing_text l (trace_of bytes).refusal
    (run_of container (trace_of bytes).steps).state) wrote.limit_is)))

ended_by : (container : Container) (failure : RunFailure) (after : State) (bytes left : List ℕ)
    (old new : Option (List ℕ)) → RunsSteps (Err failure) (start container) after bytes old new left
    → TellsEnd (status_of_run (Err failure))
    → (status_of_run (Err failure) ≡ run_status container (trace_of bytes))
    × (new ≡ and_then old (run_text container (trace_of bytes)))
ended_by container run.Unread after bytes left old new runs tells = absurd tells
ended_by container (run.Refused line rule) after bytes left old new runs tells =
    let refusal = runs.ends.refusal_is refl in (
      sym (ends_at container bytes None (Some (record { line = line; rule = rule })) old new
          runs.ends ∙ ap (status_at None) refusal),
      text_at container bytes None (Some (record { line = line; rule = rule })) old new runs.ends
          (ap (λ r. closing_text None r (run_of container (trace_of bytes).steps).state) refusal),
    )
ended_by container (run.EngineRefused text) after bytes left old new runs tells = absurd tells
ended_by container (run.JobLimit step) after bytes left old new runs tells = (
  sym (ends_at container bytes (Some step) None old new runs.ends),
  text_at container bytes (Some step) None old new runs.ends refl,
)
ended_by container run.Unwritten after bytes left old new runs tells = absurd tells
ended_by container run.OutOfMemory after bytes left old new runs tells = absurd tells

fault_text_of : (container : Container) (failure : RunFailure) (after : State) (bytes left : List ℕ)
    (old new : Option (List ℕ)) → failure ≡ run.Unread
    → RunsSteps (Err failure) (start container) after bytes old new left
    → RunsSteps (Err run.Unread) (start container) after bytes old new left
fault_text_of container failure after bytes left old new is runs =
    subst (λ f. RunsSteps (Err f) (start container) after bytes old new left) is runs

refusal_of : (container : Container) (failure : RunFailure) (after : State) (bytes left : List ℕ)
    (old new : Option (List ℕ)) (text : List ℕ) → failure ≡ run.EngineRefused text
    → RunsSteps (Err failure) (start container) after bytes old new left
    → RefusedAt (start container) (trace_of bytes).steps text old new
refusal_of container failure after bytes left old new text is runs =
    (subst (λ f. RunsSteps (Err f) (start container) after bytes old new left) is runs).ends

-- nothing was written but the warnings, which are none
pub begun : {T : Type 0} (old new : SinkState) (container : Container) (value : T)
    → Writes is_out_fault (Ok value) old new (lines_text (warnings container))
    → new.taken ≡ old.taken
begun old new container value wrote = wrote.whole ∙ sym (and_then-nil old.taken)

-- the steps were not all run
pub steps_failed : (container : Container) (result : Result Unit RunFailure) (failure : RunFailure)
    (state after : State) (bytes left : List ℕ) (first old new : Option (List ℕ))
    → result ≡ Err failure → state ≡ start container
    → old ≡ first → RunsSteps (Err failure) state after bytes old new left
    → RunsOpen container result bytes first new left
steps_failed container result failure state after bytes left first old new is starts same
    runs_here =
    let runs : RunsSteps (Err failure) (start container) after bytes first new left =
    subst (λ s. RunsSteps (Err failure) s after bytes first new left) starts
    (subst (λ o. RunsSteps (Err failure) state after bytes o new left) same runs_here) in
    subst (λ r. RunsOpen container r bytes first new left) (sym is) (record {
      ended = ended_by container failure after bytes left first new runs;
      front =
          front_of_more first new (steps_text container (trace_of bytes).steps)
          (closing_text (run_of container (trace_of bytes).steps).limit (trace_of bytes).refusal
          (run_of container (trace_of bytes).steps).state) runs.front;
      fault_text =
          λ unread read cut.
          (fault_text_of container failure after bytes left first new (cc unread) runs).ends read
          cut;
      refused =
          λ text refused.
          refusal_of container failure after bytes left first new text (cc refused) runs;
      in_time = runs.in_time;
    })

-- what was written behind the steps
record Closes (container : Container) (bytes : List ℕ) (old new : Option (List ℕ)) : Type 0 where
  pub status : run_status container (trace_of bytes) ≡ status_at None None
  pub text : steps_text container (trace_of bytes).steps
      ++ lines_text (closing (run_of container (trace_of bytes).steps).state)
      ≡ run_text container (trace_of bytes)

closes : (container : Container) (after : State) (bytes left : List ℕ) (old new : Option (List ℕ))
    (value : Unit {0}) → RunsSteps (Ok value) (start container) after bytes old new left
    → Closes container bytes old new
closes container after bytes left old new value runs =
    let wrote = runs.ends.0 in
    record {
      status = (λ i. status_at (wrote.limit_is i) (wrote.refusal_is refl i));
      text =
          ap (λ more. steps_text container (trace_of bytes).steps ++ more)
          (sym (λ i.
          closing_text (wrote.limit_is i) (wrote.refusal_is refl i)
          (run_of container (trace_of bytes).steps).state));
    }

closed_at : (container : Container) (result : Result Unit RunFailure) (after : State)
    (bytes left : List ℕ) (old : Option (List ℕ)) (middle new : SinkState) (value : Unit {0})
    → RunsSteps (Ok value) (start container) after bytes old middle.taken left
    → Writes is_out_fault result middle new (lines_text (closing after))
    → TellsEnd (status_of_run result) → ((failure : RunFailure) → result ≡ Err failure → ⊥)
    → (status_of_run result ≡ run_status container (trace_of bytes))
    × (new.taken ≡ and_then old (run_text container (trace_of bytes)))
closed_at container (Ok done) after bytes left old middle new value runs wrote tells never =
    let close = closes container after bytes left old middle.taken value runs in (
      sym close.status,
      wrote.whole
          ∙ ap (λ t. and_then t (lines_text (closing after))) runs.ends.0.text
          ∙ and_then-append old (steps_text container (trace_of bytes).steps)
          (lines_text (closing after))
          ∙ ap (λ s.
          and_then old
          (steps_text container (trace_of bytes).steps ++ lines_text (closing s))) runs.ends.1
          ∙ ap (and_then old) close.text,
    )
closed_at container (Err failure) after bytes left old middle new value runs wrote tells never =
    absurd (never failure refl)

if_err : (P : RunFailure → Type 0) (result : Result Unit RunFailure) (failure : RunFailure)
    → IfErr result P → result ≡ Err failure → P failure
if_err P (Ok done) failure all is = absurd (cc is)
if_err P (Err other) failure all is = let same : other ≡ failure = cc is in subst P same all

-- all steps were run, and then the closing lines were to be written
pub closed : (container : Container) (result : Result Unit RunFailure) (state after now : State)
    (bytes left : List ℕ) (first : Option (List ℕ)) (old middle new : SinkState) (value : Unit {0})
    → state ≡ start container → old.taken ≡ first → after ≡ now
    → RunsSteps (Ok value) state after bytes old.taken middle.taken left
    → Writes is_out_fault result middle new (lines_text (closing now))
    → IfErr result (λ failure. is_trace_fault failure ≡ false)
    → IfErr result (λ failure. TellsEnd (status_of_run (Err failure)) → ⊥)
    → IfErr result RefusesNone
    → RunsOpen container result bytes first new.taken left
closed container result state after now bytes left first old middle new value starts same goes
    runs_here wrote_here stays tells unrefused =
    let runs : RunsSteps (Ok value) (start container) after bytes first middle.taken left =
    subst (λ s. RunsSteps (Ok value) s after bytes first middle.taken left) starts
    (subst (λ o. RunsSteps (Ok value) state after bytes o middle.taken left) same runs_here) in
    let wrote : Writes is_out_fault result middle new (lines_text (closing after)) =
    subst (λ s. Writes is_out_fault result middle new (lines_text (closing s))) (sym goes)
    wrote_here in
    let close = closes container after bytes left first middle.taken value runs in
    record {
      ended =
          λ end. closed_at container result after bytes left first middle new value runs wrote end
          (λ failure is.
          if_err (λ f. TellsEnd (status_of_run (Err f)) → ⊥) result failure tells is
          (subst (λ r. TellsEnd (status_of_run r)) is end));
      front =
          subst (TookFront first new.taken) close.text
          (front_after first middle.taken new.taken (steps_text container (trace_of bytes).steps)
          (lines_text (closing (run_of container (trace_of bytes).steps).state))
          runs.ends.0.text
          (subst (λ s. TookFront middle.taken new.taken (lines_text (closing s))) runs.ends.1
          wrote.front));
      fault_text =
          λ unread. absurd
          (not_unread run.Unread
          (if_err (λ f. is_trace_fault f ≡ false) result run.Unread stays unread) refl);
      refused =
          λ text refused.
          absurd (if_err RefusesNone result (run.EngineRefused text) unrefused refused);
      in_time = runs.in_time;
    }
