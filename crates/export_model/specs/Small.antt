-- Lists so short that each place in them has a number of 32 bits.
use Rattle.std.specs.Prelude.{◌<◌, ◌^◌, ◌&&◌, ℕ, suc, List, Bool, true, IsTrue, All, Option, None}
use Rattle.std.specs.Prelude.{Some, length, nat_lt}
use Rattle.export_model.specs.declared.conditions.Condition.{Condition}
use Rattle.export_model.specs.declared.container.Container.{Container}
use Rattle.export_model.specs.declared.params.Param.{Param}
use Rattle.export_model.specs.declared.tags.Tag.{Tag}
use Rattle.export_model.specs.declared.templates.Template.{Template}
use Rattle.export_model.specs.declared.triggers.Trigger.{Trigger}
use Rattle.export_model.specs.declared.variables.Format.{Format}
use Rattle.export_model.specs.declared.variables.Variable.{Variable}
use Rattle.export_model.specs.Params.{ValueTree, template, integer, bool, list, object, reference}
use Rattle.export_model.specs.Params.{ParamTrees, end, param, value_of, params_of}

-- a list has fewer than 2^32 items
abbrev pub IsSmall : {A : Type 0} → List A → Type 0
IsSmall items = length items < 2 ^ 32

-- how many parameters these are
abbrev pub count_of : ParamTrees → ℕ
count_of end = 0
count_of (param key value ps) = suc (count_of ps)

-- so many are fewer than 2^32
abbrev pub is_few : ℕ → Bool
is_few count = nat_lt count (2 ^ 32)

unfoldable mutual
  -- each list within the value of a parameter has fewer than 2^32 items
  pub is_small_value : ValueTree → Bool
  is_small_value (template pieces) = is_few (length pieces)
  is_small_value (integer number) = true
  is_small_value (bool b) = true
  is_small_value (list ps) = is_few (count_of ps) && are_small_values ps
  is_small_value (object ps) = is_few (count_of ps) && are_small_values ps
  is_small_value (reference text) = true

  -- so has each within the values of parameters
  pub are_small_values : ParamTrees → Bool
  are_small_values end = true
  are_small_values (param key value ps) = is_small_value value && are_small_values ps

-- so has each within the value of a parameter
abbrev pub IsSmallParam : Param → Type 0
IsSmallParam p = IsTrue (is_small_value (value_of p.value))

-- the same of an optional parameter
abbrev pub IsSmallOption : Option Param → Type 0
IsSmallOption None = Unit {0}
IsSmallOption (Some p) = IsSmallParam p

-- parameters are fewer than 2^32, and so are the items of each list within them
pub record AreSmallParams (params : List Param) : Type 0 where
  pub few : IsSmall params
  pub values : IsTrue (are_small_values (params_of params))

-- the lists of a tag are small
pub record IsSmallTag (tag : Tag) : Type 0 where
  pub params : AreSmallParams tag.params
  pub firing : IsSmall tag.firing
  pub blocking : IsSmall tag.blocking
  pub consent : IsSmall tag.consent

-- the lists of a condition are small
pub record IsSmallCondition (condition : Condition) : Type 0 where
  pub left : IsSmallParam condition.left
  pub right : IsSmallParam condition.right

-- the lists of a trigger are small
pub record IsSmallTrigger (trigger : Trigger) : Type 0 where
  pub conditions : IsSmall trigger.conditions
  pub sides : All IsSmallCondition trigger.conditions
  pub members : IsSmall trigger.members

-- the lists of a format are small
pub record IsSmallFormat (format : Format) : Type 0 where
  pub null : IsSmallOption format.null
  pub undefined : IsSmallOption format.undefined
  pub yes : IsSmallOption format.yes
  pub no : IsSmallOption format.no

-- the lists of a variable are small
pub record IsSmallVariable (variable : Variable) : Type 0 where
  pub params : AreSmallParams variable.params
  pub format : IsSmallFormat variable.format

-- the lists of a template are small
pub record IsSmallTemplate (template : Template) : Type 0 where
  pub names : IsSmall template.names
  pub fields : IsSmall template.fields
  pub warnings : IsSmall template.warnings

-- a container's own lists are small
pub record IsSmallContainer (c : Container) : Type 0 where
  pub tags : IsSmall c.tags
  pub triggers : IsSmall c.triggers
  pub variables : IsSmall c.variables
  pub built_ins : IsSmall c.built_ins
  pub templates : IsSmall c.templates
  pub references : IsSmall c.references

-- each list of a container has fewer than 2^32 items, and so has each within its entries
pub record HasSmallLists (c : Container) : Type 0 where
  pub own : IsSmallContainer c
  pub tags : All IsSmallTag c.tags
  pub triggers : All IsSmallTrigger c.triggers
  pub variables : All IsSmallVariable c.variables
  pub templates : All IsSmallTemplate c.templates
