-- The two messages that initialise a page come once.
use Rattle.std.proofs.Common.{◌≡◌, ◌∙◌, ap, refl, ℕ, zero, suc, List, [], ◌∷◌, Bool, true, false}
use Rattle.std.proofs.Common.{Option, Some, None, if◌then◌else◌}
use Rattle.std.specs.Prelude.{not, ◌&&◌}
use Rattle.replay_engine.specs.Jobs.{State, Job, Message, own_message, with_messages, first_begins}
use Rattle.replay_engine.specs.Jobs.{opened, next_job, job_step, Ran, at_limit, then_jobs}
use Rattle.replay_engine.specs.Jobs.{take_jobs}
use Rattle.replay_engine.specs.Messages.{begins_page, consent_message, init_message}
use Rattle.replay_engine.specs.Run.{Run, begin_step, step_run, then_steps, run_from}
use Rattle.replay_engine.proofs.JobTurns.{counts_job, left_counts}
use Rattle.trace_forms.specs.Steps.{Step, fact, push, args, load, vendor}

pub opened_once : (state : State) → state.begun ≡ true → opened state ≡ state
opened_once state is =
    ap (λ begun. if not begun && first_begins state.waiting.messages
    then record
    (with_messages state
    (own_message consent_message ∷ own_message init_message ∷ state.waiting.messages)) {
      begun =
          true;
    } else state) is

pub opened_before : (state : State) (first : Message) (messages : List Message)
    → state.begun ≡ false → state.waiting.messages ≡ first ∷ messages
    → opened state
    ≡ (if begins_page first.value
    then record
    (with_messages state
    (own_message consent_message ∷ own_message init_message ∷ first ∷ messages)) {
      begun =
          true;
    } else state)
opened_before state first messages is waiting =
    (λ i. if not (is i) && first_begins (waiting i)
    then record
    (with_messages state (own_message consent_message ∷ own_message init_message ∷ waiting i)) {
      begun = true;
    } else state)

at_limit_begun : (state : State) (next : Option (Job × State)) → state.begun ≡ true
    → (at_limit state next).state.begun ≡ true
at_limit_begun state None is = is
at_limit_begun state (Some next) is = is

then_jobs_begun : (rest : State → Ran) (state : State) (next : Option (Job × State))
    → next_job state ≡ next → state.begun ≡ true
    → ((after : State) → after.begun ≡ true → (rest after).state.begun ≡ true)
    → (then_jobs rest state next).state.begun ≡ true
then_jobs_begun rest state None next is later = is
then_jobs_begun rest state (Some found) next is later =
    later (job_step found.1 found.0).state
    ((counts_job found.1 found.0).begun ∙ (left_counts state found.0 found.1 next).begun is)

jobs_begun : (count : ℕ) (state : State) → state.begun ≡ true
    → (take_jobs count state).state.begun ≡ true
unfolding take_jobs
jobs_begun zero state is = at_limit_begun state (next_job state) is
jobs_begun (suc count) state is =
    then_jobs_begun (take_jobs count) state (next_job state) refl is (jobs_begun count)

begin_begun : (state : State) (step : Step) → (begin_step state step).begun ≡ state.begun
begin_begun state (push value) = refl
begin_begun state (fact f) = refl
begin_begun state (args value) = refl
begin_begun state (load number ok) = refl
begin_begun state (vendor number ok) = refl

then_steps_begun : (over : Bool) (rest : State → Run) (ran : Ran) → ran.over ≡ over
    → ran.state.begun ≡ true → (rest ran.state).state.begun ≡ true
    → (then_steps rest ran).state.begun ≡ true
then_steps_begun true rest ran is begun later = rw is begun
then_steps_begun false rest ran is begun later = rw is later

-- a page that has begun stays so
pub stays_begun : (state : State) (steps : List Step) → state.begun ≡ true
    → (run_from state steps).state.begun ≡ true
unfolding run_from
stays_begun state [] is = is
stays_begun state (step ∷ steps) is =
    let ran : (step_run state step).state.begun ≡ true =
    jobs_begun _ (begin_step state step) (begin_begun state step ∙ is) in
    then_steps_begun (step_run state step).over (λ after. run_from after steps)
    (step_run state step) refl ran (stays_begun (step_run state step).state steps ran)
