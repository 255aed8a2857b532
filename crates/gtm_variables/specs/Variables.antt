-- What the values of variables need of a container.
use Rattle.std.specs.Prelude.{◌<◌, ◌^◌, ℕ, length}
use Rattle.export_model.specs.declared.container.Container.{Container}
use Rattle.export_model.specs.Graphs.{variable_graph}
use Rattle.reference_cycles.specs.Graph.{Refers, HasNoCycle}

-- there are few variables, each refers to those that are there, and none to itself
pub record HasSoundVariables (c : Container) : Type 0 where
  pub small : length c.variables < 2 ^ 32
  pub closed : (from to : ℕ) → Refers (variable_graph c) from to → to < length c.variables
  pub acyclic : HasNoCycle (variable_graph c)
