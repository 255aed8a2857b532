-- Which tags are due in a snapshot, and with which parameters.
use Rattle.std.specs.Prelude.{ℕ, List, map, slice_get}
use Rattle.std.specs.Option.{option_map_or}
use Rattle.export_model.specs.declared.params.Param.{Param}
use Rattle.export_model.specs.Params.{params_of}
use Rattle.fired_tags.specs.Fired.{fired}
use Rattle.gtm_data.specs.Tree.{Tree, object, undefined, none}
use Rattle.gtm_variables.specs.Meaning.{value}
use Rattle.gtm_variables.specs.Snapshot.{Snapshot}
use Rattle.variable_kinds.specs.declared.members.Choice.TheVariants.{Last}
use Rattle.variable_kinds.specs.Resolved.{resolved_members}

-- a tag that is due, by its place, and the Map of its parameters
pub record DueTag : Type 0 where
  pub tag : ℕ
  pub params : Tree

-- the Map of a tag's parameters with the values of the names in them: of several with one key the
-- last counts
abbrev pub params_in : Snapshot → List Param → Tree
params_in s params = object (resolved_members (value s) Last (params_of params) none)

-- that of the tag at a place
abbrev pub params_at : Snapshot → ℕ → Tree
params_at s at =
    option_map_or (λ tag. params_in s tag.params) (slice_get s.moment.container.tags at) undefined

-- the tag at a place, with its parameters
abbrev pub due_at : Snapshot → ℕ → DueTag
due_at s at = record { tag = at; params = params_at s at }

-- the tags that are fired where these triggers hold, with their parameters
abbrev pub due : Snapshot → List ℕ → List DueTag
due s holding = map (due_at s) (fired holding s.moment.event s.moment.container.tags)
