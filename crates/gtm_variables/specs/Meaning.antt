-- The value of each name in a snapshot.
use Rattle.std.specs.Prelude.{ℕ, suc, List, length, slice_get}
use Rattle.std.specs.Option.{option_map_or}
use Rattle.export_model.specs.declared.params.NameRef.{NameRef}
use Rattle.export_model.specs.declared.variables.Variable.{Variable}
use Rattle.export_model.specs.declared.variables.VariableKind.{VariableKind}
use Rattle.export_model.specs.declared.variables.VariableKind.TheVariants as kind
use Rattle.export_model.specs.Graphs.{variable_graph}
use Rattle.export_model.specs.Params.{ValueTree}
use Rattle.gtm_data.specs.Tree.{Tree, undefined}
use Rattle.reference_heights.specs.Along.{along}
use Rattle.variable_kinds.specs.Formats.{formatted}
use Rattle.variable_kinds.specs.Kinds.{of_name, of_kind, asked_of_kind}
use Rattle.variable_kinds.specs.Resolved.{resolved, fields_for}
use Rattle.gtm_variables.specs.Calls.{Templates, returned, with_call}
use Rattle.gtm_variables.specs.Snapshot.{Snapshot}

-- it enters a template
abbrev pub IsTemplate : VariableKind → Type 0
IsTemplate (kind.Template number) = Unit {0}
IsTemplate _ = ⊥

-- the value of the variable at a place by its kind, from its fields: a template's outcome, or what
-- the kind has by itself
abbrev pub kind_value : Snapshot → ℕ → VariableKind → Tree → Tree
kind_value s at (kind.Template number) fields = returned (s.outcome at s.moment.world fields)
kind_value s at variable_kind fields = of_kind s.moment variable_kind fields

-- the texts that this may hand to the engines
abbrev pub kind_texts : Snapshot → ℕ → VariableKind → Tree → List (List ℕ)
kind_texts s at (kind.Template number) fields = s.texts at s.moment.world fields
kind_texts s at variable_kind fields = asked_of_kind variable_kind fields

-- what the templates mean after the value of the variable at a place was computed
abbrev pub after_kind : ℕ → VariableKind → Tree → Templates → Templates
after_kind at (kind.Template number) fields templates = with_call at fields templates
after_kind at _ fields templates = templates

-- the fields of a variable, where the values of names are given
abbrev pub fields_of : (NameRef → Tree) → Variable → Tree
fields_of values variable = fields_for values variable.kind variable.params

-- the value of the variable at a place, where the values of names are given: by its kind from its
-- fields, then by its format
abbrev pub of_variable : Snapshot → (NameRef → Tree) → ℕ → Variable → Tree
of_variable s values at variable =
    formatted values variable.format
    (kind_value s at variable.kind (fields_of values variable))

-- the value at a place, where those of the variables are given
abbrev pub of_place : Snapshot → (ℕ → Tree) → ℕ → Tree
of_place s values at =
    option_map_or (of_variable s (of_name s.moment values) at)
    (slice_get s.moment.container.variables at) undefined

-- the value of the variable at a place
unfoldable pub value_at : Snapshot → ℕ → Tree
value_at s at =
    along (of_place s) undefined (suc (length (variable_graph s.moment.container))) at

-- the value of a name
abbrev pub value : Snapshot → NameRef → Tree
value s name = of_name s.moment (value_at s) name

-- a parameter's value, with the values of the names in it
abbrev pub resolved_in : Snapshot → ValueTree → Tree
resolved_in s param = resolved (value s) param
