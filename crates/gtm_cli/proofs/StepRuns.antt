-- The steps of a trace that are run as they are read.
use Rattle.std.proofs.Common.{◌≡◌, ◌∙◌, ap, sym, subst, refl, ℕ, List, [], ◌∷◌, ◌++◌, Bool, true}
use Rattle.std.proofs.Common.{false, append-nil}
use Rattle.std.specs.Prelude.{Contains, Option, Some, None, Result, Ok, Err, take}
use Rattle.std.specs.Option.{ForSome}
use Rattle.std.proofs.lemmas.List.{append_assoc}
use Rattle.gtm_cli.proofs.Sames.{some_same}
use Rattle.gtm_base.specs.Outside.{SinkState, TookFront, and_then}
use Rattle.gtm_base.proofs.Pieces.{and_then-append, and_then-nil, front_all, front_after}
use Rattle.gtm_base.proofs.Pieces.{front_of_more}
use Rattle.gtm_cli.specs.Failures.{failure_of_run, failure_of_trace}
use Rattle.gtm_cli.specs.Running.{RefusedAt, RunsSteps, StepsEnd, WroteRun}
use Rattle.gtm_cli.specs.declared.failures.RunFailure.{RunFailure}
use Rattle.replay_engine.specs.Addresses.{asked_texts}
use Rattle.replay_engine.specs.EngineState.{EngineState, RunsStep, state_at}
use Rattle.replay_engine.specs.Jobs.{State}
use Rattle.replay_engine.specs.Run.{lines_text, run_from, step_run}
use Rattle.replay_engine.specs.RunFault.{RefusesOnly}
use Rattle.replay_engine.specs.declared.run_end.RunEnd.{RunEnd}
use Rattle.replay_engine.specs.declared.run_end.RunEnd.TheVariants as engine
use Rattle.replay_engine.proofs.LogLines.{lines_text-append}
use Rattle.replay_engine.proofs.Runs.{goes_on, one_more, one_over, run_none, stays_ended}
use Rattle.run_log.specs.Lines.{LogLine}
use Rattle.trace_forms.specs.Steps.{Step}
use Rattle.trace_forms.specs.Views.{step_of}
use Rattle.trace_forms.specs.declared.steps.TraceStep.{TraceStep}
use Rattle.trace_lines.specs.Lines.{lines}
use Rattle.trace_reader.specs.Progress.{Progress}
use Rattle.trace_reader.specs.Standing.{Leads, StandsAfter, StandsAt}
use Rattle.trace_reader.specs.Trace.{Trace, BadLine, trace_of}
use Rattle.trace_reader.specs.Trace.{trace_of_lines}
use Rattle.trace_reader.specs.declared.reader.TraceEnd.{TraceEnd}
use Rattle.trace_reader.specs.declared.reader.TraceEnd.TheVariants as trace
use Rattle.trace_reader.proofs.Turns.{trace_behind-append}

-- these steps were handed out and run from this state on, and no call of the sink has failed
pub record IsRunning (state0 : State) (left0 : Option (List ℕ)) (out0 : SinkState)
    (now : EngineState) (reader : Progress) (left : Option (List ℕ)) (out : SinkState) : Type 0
  where
    pub done : List Step
    pub none : (run_from state0 done).limit ≡ None
    pub state : state_at now ≡ (run_from state0 done).state
    pub taken : out.taken ≡ and_then out0.taken (lines_text (run_from state0 done).lines)
    pub kept : out.faults ≡ out0.faults
    pub stands : (bytes : List ℕ) → left0 ≡ Some bytes → ForSome left (StandsAt bytes done reader)

pub running_start : (left : Option (List ℕ)) (out : SinkState) (now : EngineState)
    (reader : Progress) → ((bytes : List ℕ) → StandsAt bytes [] reader bytes)
    → IsRunning (state_at now) left out now reader left out
running_start left out now reader start = record {
  done = [];
  none = ap (λ run. run.limit) (run_none (state_at now));
  state = sym (ap (λ run. run.state) (run_none (state_at now)));
  taken =
      and_then-nil out.taken
      ∙ sym (ap (λ run. and_then out.taken (lines_text run.lines)) (run_none (state_at now)));
  kept = refl;
  stands =
      λ bytes is rest same.
      subst (λ r. StandsAt bytes [] reader r) (some_same (sym is ∙ same)) (start bytes);
}

-- ---- the lines of a run's first steps stand first

pub record Begins (front all : List LogLine) : Type 0 where
  pub more : List LogLine
  pub all_are : all ≡ front ++ more

begins_at : (limit : Option ℕ) (state : State) (first rest : List Step)
    → (run_from state first).limit ≡ limit
    → Begins (run_from state first).lines (run_from state (first ++ rest)).lines
begins_at None state first rest none =
    record { more = _; all_are = ap (λ run. run.lines) (goes_on state first rest none) }
begins_at (Some number) state first rest is =
    record {
      more =
          [];
      all_are =
          ap (λ run. run.lines) (stays_ended state first rest number is)
          ∙ sym (append-nil (run_from state first).lines);
    }

pub begins : (state : State) (first rest : List Step)
    → Begins (run_from state first).lines (run_from state (first ++ rest)).lines
begins state first rest = begins_at (run_from state first).limit state first rest refl

-- one step more, over the limit or not
one_step_at : (over : Bool) (state : State) (first : List Step) (step : Step)
    → (run_from state first).limit ≡ None → (step_run (run_from state first).state step).over ≡ over
    → (run_from state (first ++ step ∷ [])).lines
    ≡ (run_from state first).lines ++ (step_run (run_from state first).state step).lines
one_step_at true state first step none over =
    ap (λ run. run.lines) (one_over state first step none over)
one_step_at false state first step none within =
    ap (λ run. run.lines) (one_more state first step none within)

pub one_step : (state : State) (first : List Step) (step : Step)
    → (run_from state first).limit ≡ None
    → (run_from state (first ++ step ∷ [])).lines
    ≡ (run_from state first).lines ++ (step_run (run_from state first).state step).lines
one_step state first step none =
    one_step_at (step_run (run_from state first).state step).over state first step none refl

-- the lines so far are a front of the text of the whole
pub front_so_far : (old new : Option (List ℕ)) (state : State) (first rest : List Step)
    → new ≡ and_then old (lines_text (run_from state first).lines)
    → TookFront old new (lines_text (run_from state (first ++ rest)).lines)
front_so_far old new state first rest taken =
    let all = begins state first rest in
    subst (TookFront old new)
    (sym (lines_text-append (run_from state first).lines all.more)
    ∙ ap lines_text (sym all.all_are))
    (front_of_more old new (lines_text (run_from state first).lines) (lines_text all.more)
    (front_all old new (lines_text (run_from state first).lines) taken))

-- and so they are with a front of the next step's
pub front_of_step : (old now new : Option (List ℕ)) (state : State) (first rest : List Step)
    (step : Step) → (run_from state first).limit ≡ None
    → now ≡ and_then old (lines_text (run_from state first).lines)
    → TookFront now new (lines_text (step_run (run_from state first).state step).lines)
    → TookFront old new (lines_text (run_from state ((first ++ step ∷ []) ++ rest)).lines)
front_of_step old now new state first rest step none taken part =
    let all = begins state (first ++ step ∷ []) rest in
    let next = one_step state first step none in
    let front : TookFront old new (lines_text (run_from state (first ++ step ∷ [])).lines) =
    subst (TookFront old new)
    (sym (lines_text-append (run_from state first).lines
    (step_run (run_from state first).state step).lines) ∙ ap lines_text (sym next))
    (front_after old now new (lines_text (run_from state first).lines)
    (lines_text (step_run (run_from state first).state step).lines) taken part) in
    subst (TookFront old new)
    (sym (lines_text-append (run_from state (first ++ step ∷ [])).lines all.more)
    ∙ ap lines_text (sym all.all_are))
    (front_of_more old new (lines_text (run_from state (first ++ step ∷ [])).lines)
    (lines_text all.more) front)

-- ---- what was handed out is a front of the trace

pub record HasFront (trace : Trace) (done : List Step) : Type 0 where
  pub rest : List Step
  pub steps : trace.steps ≡ done ++ rest

pub stands_front : (bytes : List ℕ) (done : List Step) (reader : Progress) (left : List ℕ)
    → StandsAt bytes done reader left → HasFront (trace_of bytes) done
stands_front bytes done reader left at = record {
  rest = _;
  steps =
      ap (λ t. t.steps)
      (ap trace_of_lines at.stands.lines_are
      ∙ trace_behind-append at.handed (lines (reader.position.held ++ left)) 0 0 done at.steps);
}

-- ---- the whole was run

pub whole_run : (state0 : State) (left0 : Option (List ℕ)) (out0 : SinkState) (now : EngineState)
    (reader : Progress) (left : Option (List ℕ)) (out : SinkState) (bytes : List ℕ)
    (refusal : Option BadLine)
    → (running : IsRunning state0 left0 out0 now reader left out)
    → (trace_of bytes).steps ≡ running.done → (trace_of bytes).refusal ≡ refusal
    → WroteRun state0 bytes None refusal out0.taken out.taken
whole_run state0 left0 out0 now reader left out bytes refusal running steps refused = record {
  limit_is = ap (λ s. (run_from state0 s).limit) steps ∙ running.none;
  refusal_is = λ _. refused;
  text =
      running.taken
      ∙ sym (ap (λ s. and_then out0.taken (lines_text (run_from state0 s).lines)) steps);
}

whole_front : (state0 : State) (left0 : Option (List ℕ)) (out0 : SinkState) (now : EngineState)
    (reader : Progress) (left : Option (List ℕ)) (out : SinkState) (bytes : List ℕ)
    → (running : IsRunning state0 left0 out0 now reader left out)
    → HasFront (trace_of bytes) running.done
    → TookFront out0.taken out.taken (lines_text (run_from state0 (trace_of bytes).steps).lines)
whole_front state0 left0 out0 now reader left out bytes running front =
    subst (λ s. TookFront out0.taken out.taken (lines_text (run_from state0 s).lines))
    (sym front.steps)
    (front_so_far out0.taken out.taken state0 running.done front.rest running.taken)

-- the reader came to the end of the trace
pub runs_all : (state0 : State) (left0 : Option (List ℕ)) (out0 : SinkState) (now : EngineState)
    (reader after : Progress) (left : Option (List ℕ)) (out : SinkState) (bytes rest : List ℕ)
    (asked : Option TraceStep) → asked ≡ None
    → (running : IsRunning state0 left0 out0 now reader left out)
    → Leads (Ok asked) bytes running.done after rest
    → RunsSteps (Ok (tt {0})) state0 (state_at now) bytes out0.taken out.taken rest
runs_all state0 left0 out0 now reader after left out bytes rest asked is running told =
    let leads : Leads (Ok None) bytes running.done after rest =
    subst (λ o. Leads (Ok o) bytes running.done after rest) is told in
    let steps : (trace_of bytes).steps ≡ running.done = ap (λ t. t.steps) leads.stands.all in
    record {
      ends = (
        whole_run state0 left0 out0 now reader left out bytes None running steps
            (ap (λ t. t.refusal) leads.stands.all),
        running.state ∙ sym (ap (λ s. (run_from state0 s).state) steps),
      );
      front =
          whole_front state0 left0 out0 now reader left out bytes running
          (record { rest = []; steps = steps ∙ sym (append-nil running.done) });
      in_time = leads.in_time;
    }

ends_by : (end : TraceEnd) (state0 : State) (left0 : Option (List ℕ)) (out0 : SinkState)
    (now : EngineState) (reader after : Progress) (left : Option (List ℕ)) (out : SinkState)
    (bytes rest : List ℕ)
    → (running : IsRunning state0 left0 out0 now reader left out)
    → StandsAfter (Err end) bytes running.done after rest
    → StepsEnd (Err (failure_of_trace end)) state0 (state_at now) bytes rest out0.taken out.taken
ends_by trace.OutOfMemory state0 left0 out0 now reader after left out bytes rest running stands = tt
ends_by trace.ReadFault state0 left0 out0 now reader after left out bytes rest running stands =
    λ read is.
    running.taken
    ∙ sym (ap (λ t. and_then out0.taken (lines_text (run_from state0 t.steps).lines))
    (stands read is))
ends_by (trace.Refused line rule) state0 left0 out0 now reader after left out bytes rest running
    stands =
    whole_run state0 left0 out0 now reader left out bytes
    (Some (record { line = line; rule = rule })) running (ap (λ t. t.steps) stands)
    (ap (λ t. t.refusal) stands)

-- the reader ended otherwise
pub runs_until : (end : TraceEnd) (result : Result Unit RunFailure) (state0 : State)
    (left0 : Option (List ℕ)) (out0 : SinkState) (now : EngineState) (reader after : Progress)
    (left : Option (List ℕ)) (out : SinkState)
    (bytes before rest : List ℕ) → result ≡ Err (failure_of_trace end)
    → (running : IsRunning state0 left0 out0 now reader left out)
    → StandsAt bytes running.done reader before
    → Leads (Err end) bytes running.done after rest
    → RunsSteps result state0 (state_at now) bytes out0.taken out.taken rest
runs_until end result state0 left0 out0 now reader after left out bytes before rest is running
    stands leads =
    subst (λ r. RunsSteps r state0 (state_at now) bytes out0.taken out.taken rest) (sym is)
    (record {
      ends =
          ends_by end state0 left0 out0 now reader after left out bytes rest running leads.stands;
      front =
          whole_front state0 left0 out0 now reader left out bytes running
          (stands_front bytes running.done reader before stands);
      in_time = leads.in_time;
    })

-- ---- a step was run

pub running_on : (value : Unit {0}) (state0 : State) (left0 : Option (List ℕ)) (out0 : SinkState)
    (now later : EngineState) (reader after : Progress) (left rest : Option (List ℕ))
    (out new : SinkState) (step : TraceStep)
    (asked : Option TraceStep) → asked ≡ Some step
    → (running : IsRunning state0 left0 out0 now reader left out)
    → ((bytes : List ℕ) (done : List Step) → ForSome left (StandsAt bytes done reader)
    → ForSome rest (Leads (Ok asked) bytes done after))
    → RunsStep (Ok value) (step_run (state_at now) (step_of step)) (state_at later) out new
    → IsRunning state0 left0 out0 later after rest new
running_on value state0 left0 out0 now later reader after left rest out new step asked is_asked
    running leads ran =
    let within : (step_run (run_from state0 running.done).state (step_of step)).over ≡ false =
    sym (ap (λ st. (step_run st (step_of step)).over) running.state) ∙ ran.within in
    let more = one_more state0 running.done (step_of step) running.none within in
    record {
      done = running.done ++ step_of step ∷ [];
      none = ap (λ run. run.limit) more;
      state =
          ran.state ∙ ap (λ st. (step_run st (step_of step)).state) running.state
          ∙ sym (ap (λ run. run.state) more);
      taken =
          ran.text.whole
          ∙ ap (λ t. and_then t (lines_text (step_run (state_at now) (step_of step)).lines))
          running.taken
          ∙ and_then-append out0.taken (lines_text (run_from state0 running.done).lines)
          (lines_text (step_run (state_at now) (step_of step)).lines)
          ∙ ap (λ st.
          and_then out0.taken
          (lines_text (run_from state0 running.done).lines
          ++ lines_text (step_run st (step_of step)).lines)) running.state
          ∙ ap (and_then out0.taken)
          (sym (lines_text-append (run_from state0 running.done).lines
          (step_run (run_from state0 running.done).state
          (step_of step)).lines) ∙ ap lines_text (sym (ap (λ run. run.lines) more)));
      kept = ran.text.counted ∙ running.kept;
      stands =
          λ bytes is here same.
          (subst (λ o. Leads (Ok o) bytes running.done after here) is_asked
          (leads bytes running.done (running.stands bytes is) here same)).stands;
    }

-- ---- a step ended the run

-- engines refused a text of this step, when a front of its lines was written
refused_at : (state0 : State) (out0 : SinkState) (done rest : List Step) (step : Step)
    (text : List ℕ) (out new : SinkState) (lines : List ℕ) (all : List Step)
    → out.taken ≡ and_then out0.taken (lines_text (run_from state0 done).lines)
    → all ≡ (done ++ step ∷ []) ++ rest → TookFront out.taken new.taken lines
    → Contains (asked_texts step) text → RefusedAt state0 all text out0.taken new.taken
refused_at state0 out0 done rest step text out new lines all taken steps front asks = record {
  before = done;
  step = step;
  after = rest;
  steps_are = steps ∙ append_assoc done (step ∷ []) rest;
  asks = asks;
  more = take front.count lines;
  taken =
      front.front ∙ ap (λ t. and_then t (take front.count lines)) taken
      ∙ and_then-append out0.taken (lines_text (run_from state0 done).lines)
      (take front.count lines);
}

step_ends : (end : RunEnd) (state0 after : State) (out0 : SinkState) (now : EngineState)
    (done rest : List Step) (bytes left : List ℕ) (step : TraceStep) (out new : SinkState)
    → (run_from state0 done).limit ≡ None → state_at now ≡ (run_from state0 done).state
    → out.taken ≡ and_then out0.taken (lines_text (run_from state0 done).lines)
    → (trace_of bytes).steps ≡ (done ++ step_of step ∷ []) ++ rest
    → RunsStep (Err end) (step_run (state_at now) (step_of step)) after out new
    → RefusesOnly (asked_texts (step_of step)) end
    → StepsEnd (Err (failure_of_run end)) state0 after bytes left out0.taken new.taken
step_ends engine.OutOfMemory state0 after out0 now done rest bytes left step out new none state
    taken steps ran only = tt
step_ends engine.SinkFault state0 after out0 now done rest bytes left step out new none state taken
    steps ran only = tt
step_ends (engine.EngineRefused text) state0 after out0 now done rest bytes left step out new none
    state taken steps ran only =
    refused_at state0 out0 done rest (step_of step) text out new
    (lines_text (step_run (state_at now) (step_of step)).lines) (trace_of bytes).steps taken steps
    ran.text.front only
step_ends (engine.JobLimit number) state0 after out0 now done rest bytes left step out new none
    state taken steps ran only =
    let limit = ran.over number refl in
    let over : (step_run (run_from state0 done).state (step_of step)).over ≡ true =
    sym (ap (λ st. (step_run st (step_of step)).over) state) ∙ limit.0 in
    let last = one_over state0 done (step_of step) none over in
    let number_is : Some (step_run (run_from state0 done).state (step_of step)).state.steps
    ≡ Some number =
    ap Some (sym (ap (λ st. (step_run st (step_of step)).state.steps) state) ∙ sym limit.1) in
    let ended : (run_from state0 (done ++ step_of step ∷ [])).limit ≡ Some number =
    ap (λ run. run.limit) last ∙ number_is in
    let whole =
    ap (run_from state0) steps
    ∙ stays_ended state0 (done ++ step_of step ∷ []) rest number ended in
    record {
      limit_is = ap (λ run. run.limit) whole ∙ ended;
      refusal_is = λ never. absurd (cc never);
      text =
          limit.2
          ∙ ap (λ t. and_then t (lines_text (step_run (state_at now) (step_of step)).lines)) taken
          ∙ and_then-append out0.taken (lines_text (run_from state0 done).lines)
          (lines_text (step_run (state_at now) (step_of step)).lines)
          ∙ ap (λ st.
          and_then out0.taken
          (lines_text (run_from state0 done).lines
          ++ lines_text (step_run st (step_of step)).lines)) state
          ∙ ap (and_then out0.taken)
          (sym (lines_text-append (run_from state0 done).lines
          (step_run (run_from state0 done).state (step_of step)).lines) ∙ ap lines_text (sym
          (ap (λ run. run.lines) last) ∙ sym (ap (λ run. run.lines) whole)));
    }

pub runs_to_step : (end : RunEnd) (result : Result Unit RunFailure) (state0 : State)
    (left0 : Option (List ℕ)) (out0 : SinkState) (now later : EngineState) (reader after : Progress)
    (left : Option (List ℕ)) (out new : SinkState)
    (step : TraceStep) (asked : Option TraceStep) (bytes rest : List ℕ)
    → result ≡ Err (failure_of_run end) → asked ≡ Some step
    → (running : IsRunning state0 left0 out0 now reader left out)
    → Leads (Ok asked) bytes running.done after rest
    → RunsStep (Err end) (step_run (state_at now) (step_of step)) (state_at later) out new
    → RefusesOnly (asked_texts (step_of step)) end
    → RunsSteps result state0 (state_at later) bytes out0.taken new.taken rest
runs_to_step end result state0 left0 out0 now later reader after left out new step asked bytes rest
    is is_asked running told ran only =
    let leads : Leads (Ok (Some step)) bytes running.done after rest =
    subst (λ o. Leads (Ok o) bytes running.done after rest) is_asked told in
    let front = stands_front bytes (running.done ++ step_of step ∷ []) after rest leads.stands in
    subst (λ r. RunsSteps r state0 (state_at later) bytes out0.taken new.taken rest) (sym is)
    (record {
      ends =
          step_ends end state0 (state_at later) out0 now running.done front.rest bytes rest step out
          new running.none running.state running.taken front.steps ran only;
      front =
          subst (λ s. TookFront out0.taken new.taken (lines_text (run_from state0 s).lines))
          (sym front.steps)
          (front_of_step out0.taken out.taken new.taken state0 running.done front.rest
          (step_of step) running.none running.taken
          (subst (λ st.
          TookFront out.taken new.taken
          (lines_text (step_run st (step_of step)).lines)) running.state ran.text.front));
      in_time = leads.in_time;
    })
