-- Which variables name which, and which groups have which triggers as members.
use Rattle.std.specs.Prelude.{ℕ, List, Option, Some, None, map}
use Rattle.std.specs.List.{filter_map}
use Rattle.export_model.specs.declared.container.Container.{Container}
use Rattle.export_model.specs.declared.params.NameRef.{NameRef}
use Rattle.export_model.specs.declared.params.NameRef.TheVariants.{Variable, BuiltIn, EventName}
use Rattle.export_model.specs.declared.params.NameRef.TheVariants.{Nothing}
use Rattle.export_model.specs.declared.triggers.TriggerRef.{TriggerRef}
use Rattle.export_model.specs.declared.triggers.TriggerRef.TheVariants.{Own, AllPages, Init}
use Rattle.export_model.specs.declared.triggers.TriggerRef.TheVariants.{ConsentInit, Never}
use Rattle.export_model.specs.Names.{names_of_variable}

-- the place of the variable that a name stands for, if it does
abbrev pub variable_at : NameRef → Option ℕ
variable_at (Variable at) = Some at
variable_at (BuiltIn at) = None
variable_at EventName = None
variable_at Nothing = None

-- the place of the container's own trigger that a number stands for, if it does
abbrev pub trigger_at : TriggerRef → Option ℕ
trigger_at (Own at) = Some at
trigger_at AllPages = None
trigger_at Init = None
trigger_at ConsentInit = None
trigger_at Never = None

-- for each variable the places of those that its parameters and its format name
abbrev pub variable_graph : Container → List (List ℕ)
variable_graph c = map (λ variable. filter_map variable_at (names_of_variable variable)) c.variables

-- for each trigger the places of those that are members of its group
abbrev pub group_graph : Container → List (List ℕ)
group_graph c = map (λ trigger. filter_map trigger_at trigger.members) c.triggers
