-- The jobs of a step, one after the other.
use Rattle.std.proofs.Common.{◌≡◌, ◌∙◌, ap, refl, sym, subst, ℕ, zero, suc, ◌+◌, ◌-◌, ◌<◌, ◌≤◌}
use Rattle.std.proofs.Common.{List, [], ◌∷◌, ◌++◌, Bool, true, false, Option, Some, None}
use Rattle.std.proofs.Common.{if◌then◌else◌, arith}
use Rattle.std.specs.Prelude.{not, ◌&&◌, is_some, Result, Ok, Err, IsErrAnd}
use Rattle.data_layer.proofs.Steps.{some_same}
use Rattle.gtm_base.specs.Outside.{SinkState, OnTheWay, Writes}
use Rattle.gtm_base.proofs.WrittenPieces.{way_start, way_on, way_part, way_stop, way_all, way_is}
use Rattle.gtm_base.proofs.WrittenPieces.{writes_as}
use Rattle.gtm_data.specs.Tree.{Tree}
use Rattle.replay_engine.specs.EngineState.{RunsStep}
use Rattle.replay_engine.specs.Jobs.{State, Job, pushed, Message, own_message, with_messages}
use Rattle.replay_engine.specs.Jobs.{first_begins, opened, first_of, first_message, next_job}
use Rattle.replay_engine.specs.Jobs.{one_if, is_list, take_message, take_command, job_step, Ran}
use Rattle.replay_engine.specs.Jobs.{with_lines, at_limit, then_jobs, take_jobs}
use Rattle.replay_engine.specs.Messages.{event_of, consent_message, init_message}
use Rattle.replay_engine.specs.Run.{lines_text}
use Rattle.replay_engine.specs.RunFault.{is_run_fault, run_end_of, NeverLimits}
use Rattle.replay_engine.specs.declared.run_end.RunEnd.{RunEnd}
use Rattle.replay_engine.specs.declared.run_end.RunEnd.TheVariants.{OutOfMemory, JobLimit}
use Rattle.replay_engine.proofs.LogLines.{lines_text-append}
use Rattle.run_log.specs.LineFault.{is_line_fault}
use Rattle.run_log.specs.declared.writing.LineEnd.{LineEnd}
use Rattle.run_log.specs.declared.writing.LineEnd.TheVariants as line

-- ---- counts

-- what a next job leaves of the counts
pub record KeepsCounts (old new : State) : Type 0 where
  pub steps : new.steps ≡ old.steps
  pub jobs : new.jobs ≡ old.jobs
  pub events : new.events ≡ old.events
  pub begun : old.begun ≡ true → new.begun ≡ true

same_counts : (state : State) → KeepsCounts state state
same_counts state = record { steps = refl; jobs = refl; events = refl; begun = λ is. is }

opens_at : (test : Bool) (state : State)
    → KeepsCounts state
    (if test then record
    (with_messages state
    (own_message consent_message ∷ own_message init_message ∷ state.waiting.messages)) {
      begun =
          true;
    } else state)
opens_at true state = record { steps = refl; jobs = refl; events = refl; begun = λ is. refl }
opens_at false state = same_counts state

opens : (state : State) → KeepsCounts state (opened state)
opens state = opens_at (not state.begun && first_begins state.waiting.messages) state

left_of_first : (old : State) (jobs : List Job) (rest : List Job → State)
    (other : Option (Job × State)) (job : Job) (left : State)
    → ((more : List Job) → KeepsCounts old (rest more))
    → (other ≡ Some (job, left) → KeepsCounts old left)
    → first_of jobs rest other ≡ Some (job, left) → KeepsCounts old left
left_of_first old [] rest other job left kept otherwise is = otherwise is
left_of_first old (first ∷ jobs) rest other job left kept otherwise is =
    subst (KeepsCounts old) (ap (λ found. found.1) (some_same is)) (kept jobs)

left_of_messages : (old state : State) (messages : List Message) (job : Job) (left : State)
    → KeepsCounts old state → first_message state messages ≡ Some (job, left) → KeepsCounts old left
left_of_messages old state [] job left kept is = absurd (cc is)
left_of_messages old state (first ∷ messages) job left kept is =
    subst (KeepsCounts old) (ap (λ found. found.1) (some_same is))
    (record { steps = kept.steps; jobs = kept.jobs; events = kept.events; begun = kept.begun })

pub left_counts : (state : State) (job : Job) (left : State) → next_job state ≡ Some (job, left)
    → KeepsCounts state left
left_counts state job left is =
    left_of_first state state.waiting.own _ _ job left
    (λ more. record { steps = refl; jobs = refl; events = refl; begun = λ same. same })
    (left_of_first state state.waiting.early _ _ job left
    (λ more. record { steps = refl; jobs = refl; events = refl; begun = λ same. same })
    (left_of_first state state.waiting.deferred _ _ job left
    (λ more. record { steps = refl; jobs = refl; events = refl; begun = λ same. same })
    (left_of_messages state (opened state) (opened state).waiting.messages job left (opens state))))
    is

-- what a job leaves of the counts
pub record CountsJob (old new : State) : Type 0 where
  pub steps : new.steps ≡ old.steps
  pub jobs : new.jobs ≡ old.jobs + 1
  pub events : new.events ≤ old.events + 1
  pub begun : new.begun ≡ old.begun

one_at_most : (name : Option (List ℕ)) → one_if name ≤ 1
one_at_most None = omega arith
one_at_most (Some name) = omega arith

counts_at : (test : Bool) (state : State) (value : Tree)
    → CountsJob state (if test then take_command state value else take_message state value).state
counts_at true state value =
    record { steps = refl; jobs = refl; events = omega arith; begun = refl }
counts_at false state value =
    record {
      steps =
          refl;
      jobs = refl;
      events = omega (arith, one_at_most (event_of value));
      begun = refl;
    }

pub counts_job : (state : State) (job : Job) → CountsJob state (job_step state job).state
counts_job state (pushed taken) = counts_at (is_list taken.value) state taken.value

-- ---- the jobs of a step
pub taken_none : (count : ℕ) (state : State) → next_job state ≡ None
    → take_jobs count state ≡ record { state = state; lines = []; over = false }
unfolding take_jobs
taken_none zero state is = ap (at_limit state) is
taken_none (suc count) state is = ap (then_jobs (take_jobs count) state) is

pub taken_some : (count : ℕ) (state : State) (job : Job) (left : State) → 0 < count
    → next_job state ≡ Some (job, left)
    → take_jobs count state
    ≡ with_lines (job_step left job).lines (take_jobs (count - 1) (job_step left job).state)
unfolding take_jobs
taken_some zero state job left some is = absurd (omega arith)
taken_some (suc count) state job left some is =
    let less : count ≡ suc count - 1 = omega arith in
    ap (then_jobs (take_jobs count) state) is
    ∙ ap (λ n. with_lines (job_step left job).lines (take_jobs n (job_step left job).state))
    less

over_limit : (state : State) (next : Option (Job × State)) → is_some next ≡ true
    → at_limit state next ≡ record { state = state; lines = []; over = true }
over_limit state None some = absurd (cc some)
over_limit state (Some next) some = refl

pub taken_over : (state : State) → is_some (next_job state) ≡ true
    → take_jobs 0 state ≡ record { state = state; lines = []; over = true }
unfolding take_jobs
taken_over state some = over_limit state (next_job state) some

pub none_next : (next : Option (Job × State)) → is_some next ≡ false → next ≡ None
none_next None none = refl
none_next (Some next) none = absurd (cc none)

-- so many jobs more end as the whole does, and their lines are what is left of it
pub record Reaches (count : ℕ) (state : State) (whole : Ran) (old now : SinkState) : Type 0 where
  pub ran : (take_jobs count state).state ≡ whole.state
  pub over : (take_jobs count state).over ≡ whole.over
  pub text : OnTheWay old now (lines_text (take_jobs count state).lines) (lines_text whole.lines)

pub reaches_start : (count : ℕ) (state : State) (out : SinkState)
    → Reaches count state (take_jobs count state) out out
reaches_start count state out = record { ran = refl; over = refl; text = way_start out _ _ refl }

-- the text of the jobs is that of the next one, and that of the others behind it
jobs_text : (count : ℕ) (state : State) (job : Job) (left : State) → 0 < count
    → next_job state ≡ Some (job, left)
    → lines_text (take_jobs count state).lines
    ≡ lines_text (job_step left job).lines
    ++ lines_text (take_jobs (count - 1) (job_step left job).state).lines
jobs_text count state job left some is =
    ap (λ ran. lines_text ran.lines) (taken_some count state job left some is)
    ∙ lines_text-append (job_step left job).lines
    (take_jobs (count - 1) (job_step left job).state).lines

pub reaches_on : {T E : Type 0} (is_fault : E → Bool) (value : T) (count fewer : ℕ)
    (state left new : State) (job : Job) (whole : Ran) (old now later : SinkState)
    → 0 < count → fewer ≡ count - 1 → next_job state ≡ Some (job, left)
    → new ≡ (job_step left job).state → Reaches count state whole old now
    → Writes is_fault (Ok value) now later (lines_text (job_step left job).lines)
    → Reaches fewer new whole old later
reaches_on is_fault value count fewer state left new job whole old now later some less next made
    reached wrote =
    let rest : take_jobs fewer new ≡ take_jobs (count - 1) (job_step left job).state =
    λ i. take_jobs (less i) (made i) in
    let taken = taken_some count state job left some next in
    record {
      ran = ap (λ ran. ran.state) rest ∙ sym (ap (λ ran. ran.state) taken) ∙ reached.ran;
      over = ap (λ ran. ran.over) rest ∙ sym (ap (λ ran. ran.over) taken) ∙ reached.over;
      text =
          way_is old later _ _ _ (ap (λ ran. lines_text ran.lines) (sym rest))
          (way_on is_fault value old now later _ _ _ _ (jobs_text count state job left some next)
          reached.text wrote);
    }

-- ---- how it ends

-- no job is left
pub reaches_end : (count : ℕ) (state after : State) (whole : Ran) (old now : SinkState)
    → next_job state ≡ None → after ≡ state → Reaches count state whole old now
    → RunsStep (Ok (tt {0})) whole after old now
reaches_end count state after whole old now none same reached =
    let taken = taken_none count state none in
    record {
      text =
          way_all is_run_fault (tt {0}) old now _ _ reached.text
          (ap (λ ran. lines_text ran.lines) taken);
      within = sym reached.over ∙ ap (λ ran. ran.over) taken;
      state = same ∙ sym (ap (λ ran. ran.state) taken) ∙ reached.ran;
      over = λ step is. absurd (cc is);
    }

limit_at_none : (state after : State) (step : ℕ) (whole : Ran) (old now : SinkState)
    → is_some (next_job state) ≡ true → step ≡ state.steps → Reaches 0 state whole old now
    → RunsStep (Err (JobLimit step)) whole after old now
limit_at_none state after step whole old now some number reached =
    let taken = taken_over state some in
    let all : Writes {T = Unit {0}} is_run_fault (Ok (tt {0})) old now (lines_text whole.lines) =
    way_all is_run_fault (tt {0}) old now _ _ reached.text
    (ap (λ ran. lines_text ran.lines) taken) in
    record {
      text = way_stop is_run_fault (JobLimit step) old now _ _ reached.text refl;
      within = tt;
      state = tt;
      over = λ other is.
          let same : step ≡ other = cc is in (
            sym reached.over ∙ ap (λ ran. ran.over) taken,
            sym same ∙ number ∙ sym (ap (λ ran. ran.state.steps) taken)
                ∙ ap (λ s. s.steps) reached.ran,
            all.whole,
          );
    }

-- one more is left than there may be
pub reaches_limit : (count : ℕ) (state after : State) (step : ℕ) (whole : Ran) (old now : SinkState)
    → count ≡ 0 → is_some (next_job state) ≡ true → step ≡ state.steps
    → Reaches count state whole old now → RunsStep (Err (JobLimit step)) whole after old now
reaches_limit count state after step whole old now none some number reached =
    limit_at_none state after step whole old now some number
    (subst (λ n. Reaches n state whole old now) none reached)

-- memory was wanting before the next line
pub reaches_no_memory : (result : Result Unit RunEnd) (count : ℕ) (state after : State)
    (whole : Ran) (old now : SinkState) → result ≡ Err OutOfMemory
    → Reaches count state whole old now
    → RunsStep result whole after old now
reaches_no_memory result count state after whole old now is reached =
    subst (λ r. RunsStep r whole after old now) (sym is) (record {
      text = way_stop is_run_fault OutOfMemory old now _ _ reached.text refl;
      within = tt;
      state = tt;
      over = λ step limit. absurd (cc limit);
    })

same_fault : (error : LineEnd) → is_run_fault (run_end_of error) ≡ is_line_fault error
same_fault line.OutOfMemory = refl
same_fault line.SinkFault = refl

never_limit : (error : LineEnd) (step : ℕ) → run_end_of error ≡ JobLimit step → ⊥
never_limit line.OutOfMemory step is = cc is
never_limit line.SinkFault step is = cc is

-- a line that was not written is no limit of jobs
pub line_never_limits : (error : LineEnd) (end : RunEnd) → end ≡ run_end_of error
    → NeverLimits (Err end)
line_never_limits line.OutOfMemory end is = rw is tt
line_never_limits line.SinkFault end is = rw is tt

-- a line of the next job was not written
pub reaches_part : {T : Type 0} (result : Result Unit RunEnd) (error : LineEnd) (count : ℕ)
    (state left after : State) (job : Job) (whole : Ran) (old now new : SinkState)
    → result ≡ Err (run_end_of error) → 0 < count → next_job state ≡ Some (job, left)
    → Reaches count state whole old now
    → Writes {T = T} is_line_fault (Err error) now new (lines_text (job_step left job).lines)
    → RunsStep result whole after old new
reaches_part {T} result error count state left after job whole old now new is some next reached
    part =
    subst (λ r. RunsStep r whole after old new) (sym is) (record {
      text =
          writes_as {T = Unit {0}} is_line_fault error is_run_fault (run_end_of error) old new _
          (same_fault error)
          (way_part is_line_fault error old now new _ _ _ _
          (jobs_text count state job left some next) reached.text part);
      within = tt;
      state = tt;
      over = λ step limit. let same : run_end_of error ≡ JobLimit step = cc limit in
          absurd (never_limit error step same);
    })

-- the error that a conversion gave
pub error_is : {T E : Type 0} (result : Result T E) (error : E) → IsErrAnd result (λ e. e ≡ error)
    → result ≡ Err error
error_is (Ok done) error is = absurd is
error_is (Err e) error is = ap Err is
