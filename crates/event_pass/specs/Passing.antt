-- What the pass of an event finds.
use Rattle.std.specs.Prelude.{ℕ, List, map, Option}
use Rattle.event_pass.specs.declared.passing.DueTag.{DueTag as DueEntry}
use Rattle.event_pass.specs.declared.passing.EventPass.{EventPass}
use Rattle.event_pass.specs.Due.{DueTag, due}
use Rattle.gtm_data.specs.Tree.{tree_of}
use Rattle.gtm_triggers.specs.Holding.{holding}
use Rattle.gtm_variables.specs.Snapshot.{Snapshot}

-- the triggers that hold, and the tags that are due
pub record Pass : Type 0 where
  pub holding : List ℕ
  pub due : List DueTag

-- what an event's pass finds in a snapshot: the triggers that hold, and the tags that they fire.
-- The event may be the own message of a group
abbrev pub pass : Snapshot → Option ℕ → Pass
pass s group = record {
  holding = holding s s.moment.event group;
  due = due s (holding s s.moment.event group);
}

-- a tag that is due, as its place and the tree of its parameters
abbrev pub due_of : DueEntry → DueTag
due_of entry = record { tag = entry.tag; params = tree_of entry.params }

-- the same of a whole pass
abbrev pub pass_of : EventPass → Pass
pass_of made = record { holding = made.holding; due = map due_of made.due }
