-- What holds of a container that was read.
use Rattle.std.specs.Prelude.{◌≡◌, ◌<◌, length, true, false, All, IfSome, slice_get, IsSomeAnd}
use Rattle.export_model.specs.declared.conditions.Condition.{Condition}
use Rattle.export_model.specs.declared.container.Container.{Container}
use Rattle.export_model.specs.declared.params.NameRef.{NameRef}
use Rattle.export_model.specs.declared.params.NameRef.TheVariants.{Variable, BuiltIn, EventName}
use Rattle.export_model.specs.declared.params.NameRef.TheVariants.{Nothing}
use Rattle.export_model.specs.declared.params.Param.{Param}
use Rattle.export_model.specs.declared.tags.Tag.{Tag}
use Rattle.export_model.specs.declared.tags.TagKind.{TagKind}
use Rattle.export_model.specs.declared.tags.TagKind.TheVariants as tag_kind
use Rattle.export_model.specs.declared.tags.Sequence.{Sequence}
use Rattle.export_model.specs.declared.triggers.Trigger.{Trigger}
use Rattle.export_model.specs.declared.triggers.TriggerRef.{TriggerRef}
use Rattle.export_model.specs.declared.triggers.TriggerRef.TheVariants.{Own, AllPages, Init}
use Rattle.export_model.specs.declared.triggers.TriggerRef.TheVariants.{ConsentInit, Never}
use Rattle.export_model.specs.declared.variables.Format.{Format}
use Rattle.export_model.specs.declared.variables.Variable.{Variable as VariableEntry}
use Rattle.export_model.specs.declared.variables.VariableKind.{VariableKind}
use Rattle.export_model.specs.declared.variables.VariableKind.TheVariants as variable_kind
use Rattle.reference_cycles.specs.Graph.{HasNoCycle}
use Rattle.export_model.specs.Graphs.{variable_graph, group_graph}
use Rattle.export_model.specs.Names.{names_in}
use Rattle.export_model.specs.Params.{value_of}
use Rattle.export_model.specs.Small.{HasSmallLists}

-- a name stands for a variable or a built-in variable that is there, or for none
abbrev pub IsNameIn : Container → NameRef → Type 0
IsNameIn c (Variable at) = at < length c.variables
IsNameIn c (BuiltIn at) = at < length c.built_ins
IsNameIn c EventName = Unit {0}
IsNameIn c Nothing = Unit {0}

-- each name in a parameter stands for something that is there, or for nothing
abbrev pub IsParamIn : Container → Param → Type 0
IsParamIn c p = All (IsNameIn c) (names_in (value_of p.value))

-- so does each in the sides of a condition
pub record IsConditionIn (c : Container) (condition : Condition) : Type 0 where
  pub left : IsParamIn c condition.left
  pub right : IsParamIn c condition.right

-- so does each in the parameters of a format
pub record IsFormatIn (c : Container) (format : Format) : Type 0 where
  pub null : IfSome format.null (IsParamIn c)
  pub undefined : IfSome format.undefined (IsParamIn c)
  pub yes : IfSome format.yes (IsParamIn c)
  pub no : IfSome format.no (IsParamIn c)

-- a trigger's number stands for a trigger that is there, or for a built-in one
abbrev pub IsTriggerIn : Container → TriggerRef → Type 0
IsTriggerIn c (Own at) = at < length c.triggers
IsTriggerIn c AllPages = Unit {0}
IsTriggerIn c Init = Unit {0}
IsTriggerIn c ConsentInit = Unit {0}
IsTriggerIn c Never = Unit {0}

-- a setup or teardown tag is there
abbrev pub IsSequenceIn : Container → Sequence → Type 0
IsSequenceIn c sequence = sequence.tag < length c.tags

-- a tag's template is there
abbrev pub IsTagKindIn : Container → TagKind → Type 0
IsTagKindIn c (tag_kind.Template at) = at < length c.templates
IsTagKindIn c (tag_kind.Opaque word) = Unit {0}

-- a variable's template is there
abbrev pub IsVariableKindIn : Container → VariableKind → Type 0
IsVariableKindIn c (variable_kind.Template at) = at < length c.templates
IsVariableKindIn c _ = Unit {0}

-- what a tag names is there
pub record IsTagIn (c : Container) (tag : Tag) : Type 0 where
  pub kind : IsTagKindIn c tag.kind
  pub params : All (IsParamIn c) tag.params
  pub firing : All (IsTriggerIn c) tag.firing
  pub blocking : All (IsTriggerIn c) tag.blocking
  pub setup : IfSome tag.setup (IsSequenceIn c)
  pub teardown : IfSome tag.teardown (IsSequenceIn c)

-- what a trigger names is there
pub record IsTriggerEntryIn (c : Container) (trigger : Trigger) : Type 0 where
  pub conditions : All (IsConditionIn c) trigger.conditions
  pub members : All (IsTriggerIn c) trigger.members

-- what a variable names is there
pub record IsVariableIn (c : Container) (variable : VariableEntry) : Type 0 where
  pub kind : IsVariableKindIn c variable.kind
  pub params : All (IsParamIn c) variable.params
  pub format : IsFormatIn c variable.format

-- every number is below the length of the list that it names
pub record InRange (c : Container) : Type 0 where
  pub tags : All (IsTagIn c) c.tags
  pub triggers : All (IsTriggerEntryIn c) c.triggers
  pub variables : All (IsVariableIn c) c.variables

-- a tag's template is one of tags
abbrev pub FitsTag : Container → TagKind → Type 0
FitsTag c (tag_kind.Template at) =
    IsSomeAnd (slice_get c.templates at) (λ template. template.is_tag ≡ true)
FitsTag c (tag_kind.Opaque word) = Unit {0}

-- a variable's template is none of tags
abbrev pub FitsVariable : Container → VariableKind → Type 0
FitsVariable c (variable_kind.Template at) =
    IsSomeAnd (slice_get c.templates at) (λ template. template.is_tag ≡ false)
FitsVariable c _ = Unit {0}

-- templates are used as what they are
pub record FitsTemplates (c : Container) : Type 0 where
  pub tags : All (λ tag. FitsTag c tag.kind) c.tags
  pub variables : All (λ variable. FitsVariable c variable.kind) c.variables

-- lists are short, every number is in range, and nothing refers to itself
pub record IsConsistent (c : Container) : Type 0 where
  pub small : HasSmallLists c
  pub in_range : InRange c
  pub no_variable_cycle : HasNoCycle (variable_graph c)
  pub no_group_cycle : HasNoCycle (group_graph c)

-- the same, and templates are used as what they are
pub record Sound (c : Container) : Type 0 where
  pub consistent : IsConsistent c
  pub fits : FitsTemplates c
