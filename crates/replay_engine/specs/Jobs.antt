-- The jobs of a step: what waits, which is next, what each does, and how many a step may have.
use Rattle.std.specs.Prelude.{ℕ, zero, suc, ◌+◌, List, [], ◌∷◌, ◌++◌, Bool, true, false, not, ◌&&◌}
use Rattle.std.specs.Prelude.{Option, Some, None, if◌then◌else◌}
use Rattle.data_layer.specs.Command.{is_ignored_command, after_command}
use Rattle.data_layer.specs.Layer.{is_ignored, after_message}
use Rattle.export_model.specs.declared.container.Container.{Container}
use Rattle.gtm_data.specs.Facts.{ids}
use Rattle.gtm_data.specs.Tree.{Tree, list}
use Rattle.page_world.specs.World.{WorldState, after_fact, empty_world, on_layer}
use Rattle.replay_engine.specs.Messages.{event_of, begins_page, consent_message, init_message}
use Rattle.run_log.specs.Lines.{LogLine, message, command, event}

-- a value that waits to be taken as a message, and the group whose message it is, if it is one's
pub record Message : Type 0 where
  pub value : Tree
  pub group : Option ℕ

-- what waits for its turn
pub data Job : Type 0 where
  -- a pushed value: a message, or a command array
  pushed : Message → Job

-- what waits, each list in the order in which it was made
pub record Waiting : Type 0 where
  -- the job of a step that is taken at once
  pub own : List Job
  -- jobs that go before the others
  pub early : List Job
  -- jobs that go before messages
  pub deferred : List Job
  pub messages : List Message

-- nothing waits
abbrev pub nothing : Waiting
nothing = record { own = []; early = []; deferred = []; messages = [] }

-- where a run stands: its container, the world of the page, what waits, whether a page has begun, and how
-- many steps, jobs and events there were
pub record State : Type 0 where
  pub container : Container
  pub world : WorldState
  pub waiting : Waiting
  pub begun : Bool
  pub steps : ℕ
  pub jobs : ℕ
  pub events : ℕ

-- before the first step: the container's two names are known
abbrev pub start : Container → State
start container =
    record {
      container =
          container;
      world =
          after_fact (ids container.public_id container.version_id) empty_world;
      waiting = nothing;
      begun = false;
      steps = 0;
      jobs = 0;
      events = 0;
    }

-- a message that is no group's
abbrev pub own_message : Tree → Message
own_message value = record { value = value; group = None }

-- whether the first of these messages begins a page
abbrev pub first_begins : List Message → Bool
first_begins [] = false
first_begins (first ∷ messages) = begins_page first.value

-- the same state with these messages waiting
abbrev pub with_messages : State → List Message → State
with_messages state messages =
    record state { waiting = record state.waiting { messages = messages } }

-- the two messages that initialise a page stand before its first `gtm.js`, once that is next
abbrev pub opened : State → State
opened state =
    if not state.begun && first_begins state.waiting.messages
    then record
    (with_messages state
    (own_message consent_message ∷ own_message init_message ∷ state.waiting.messages)) {
      begun =
          true;
    }
    else state

-- the first of these jobs, with the state in which the others wait; else what there is otherwise
abbrev pub first_of : List Job → (List Job → State) → Option (Job × State) → Option (Job × State)
first_of [] rest other = other
first_of (job ∷ jobs) rest other = Some (job, rest jobs)

-- the first of these messages, with the state in which the others wait
abbrev pub first_message : State → List Message → Option (Job × State)
first_message state [] = None
first_message state (first ∷ messages) = Some (pushed first, with_messages state messages)

-- the next job, and the state without it: a step's own, then early ones, then deferred ones, then
-- messages
abbrev pub next_job : State → Option (Job × State)
next_job state =
    first_of state.waiting.own
    (λ jobs. record state { waiting = record state.waiting { own = jobs } })
    (first_of state.waiting.early
    (λ jobs. record state { waiting = record state.waiting { early = jobs } })
    (first_of state.waiting.deferred
    (λ jobs. record state { waiting = record state.waiting { deferred = jobs } })
    (first_message (opened state) (opened state).waiting.messages)))

-- the state after something was done, and its lines
pub record Did : Type 0 where
  pub state : State
  pub lines : List LogLine

-- whether it is a List
abbrev pub is_list : Tree → Bool
is_list (list ts) = true
is_list _ = false

-- one where there is an event
abbrev pub one_if : Option (List ℕ) → ℕ
one_if None = 0
one_if (Some name) = 1

-- the line of an event, where there is one
abbrev pub event_lines : ℕ → Option (List ℕ) → List LogLine
event_lines number None = []
event_lines number (Some name) = event number name ∷ []

-- a message is merged into the data layer; one that is an event has the next number
abbrev pub take_message : State → Tree → Did
take_message state value = record {
  state =
      record state {
        world =
            on_layer (after_message value) state.world;
        jobs =
            state.jobs + 1;
        events = state.events + one_if (event_of value);
      };
  lines = message value (is_ignored value) ∷ event_lines (state.events + 1) (event_of value);
}

-- a List is a command array
abbrev pub take_command : State → Tree → Did
take_command state value = record {
  state = record state {
    world = on_layer (after_command value) state.world;
    jobs = state.jobs + 1;
  };
  lines = command value (is_ignored_command value state.world.layer) ∷ [];
}

-- what a pushed value does: a List is a command array, and any other value is a message
abbrev pub take_value : State → Tree → Did
take_value state value =
    if is_list value then take_command state value else take_message state value

-- what a job does
abbrev pub job_step : State → Job → Did
job_step state (pushed taken) = take_value state taken.value

-- the jobs of a step: the state and the lines after them, and whether one more is needed than a
-- step may have
pub record Ran : Type 0 where
  pub state : State
  pub lines : List LogLine
  pub over : Bool

-- the same with these lines before
abbrev pub with_lines : List LogLine → Ran → Ran
with_lines lines ran = record ran { lines = lines ++ ran.lines }

-- no job may be taken any more: one is needed where there is one
abbrev pub at_limit : State → Option (Job × State) → Ran
at_limit state None = record { state = state; lines = []; over = false }
at_limit state (Some next) = record { state = state; lines = []; over = true }

-- the next job, and those behind it
abbrev pub then_jobs : (State → Ran) → State → Option (Job × State) → Ran
then_jobs rest state None = record { state = state; lines = []; over = false }
then_jobs rest state (Some next) =
    with_lines (job_step next.1 next.0).lines (rest (job_step next.1 next.0).state)

-- jobs are taken until none is left, at most so many
unfoldable pub take_jobs : ℕ → State → Ran
take_jobs zero state = at_limit state (next_job state)
take_jobs (suc count) state = then_jobs (take_jobs count) state (next_job state)
