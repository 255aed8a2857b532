-- What the values of the program stand for.
use Rattle.std.specs.Prelude.{ℕ, List, map, Bool, Option, unwrap_or}
use Rattle.export_model.specs.declared.container.Container.{Container}
use Rattle.gtm_data.specs.Tree.{tree_of}
use Rattle.page_world.specs.Known.{Known, seen}
use Rattle.page_world.specs.World.{empty_world}
use Rattle.replay_engine.specs.Jobs as spec
use Rattle.replay_engine.specs.declared.event_model.EventModel.{EventModel}
use Rattle.replay_engine.specs.declared.waiting.Job.{Job}
use Rattle.replay_engine.specs.declared.waiting.Job.TheVariants.{Pushed}
use Rattle.replay_engine.specs.declared.waiting.Message.{Message}

-- the message that a value is
abbrev pub message_of : Message → spec.Message
message_of message = record { value = tree_of message.value; group = message.group }

-- the job that a value is
abbrev pub job_of : Job → spec.Job
job_of (Pushed message) = spec.pushed (message_of message)

-- where a run stands, in values of the program
pub record Standing : Type 0 where
  pub container : Container
  pub world : Option Known
  pub own : List Job
  pub early : List Job
  pub deferred : List Job
  pub messages : List Message
  pub begun : Bool
  pub steps : ℕ
  pub jobs : ℕ
  pub events : ℕ

-- the same with trees for values
abbrev pub state_in : Standing → spec.State
state_in standing = record {
  container = standing.container;
  world = unwrap_or (seen standing.world) empty_world;
  waiting = record {
    own = map job_of standing.own;
    early = map job_of standing.early;
    deferred = map job_of standing.deferred;
    messages = map message_of standing.messages;
  };
  begun = standing.begun;
  steps = standing.steps;
  jobs = standing.jobs;
  events = standing.events;
}

-- where an event model stands
abbrev pub standing_of : EventModel → Standing
standing_of model = record {
  container = model.container;
  world = model.world;
  own = model.waiting.own.items;
  early = model.waiting.early.items;
  deferred = model.waiting.deferred.items;
  messages = model.waiting.messages.items;
  begun = model.begun;
  steps = model.steps;
  jobs = model.jobs;
  events = model.events;
}

-- the same with trees for values
abbrev pub state_of : EventModel → spec.State
state_of model = state_in (standing_of model)
