-- The values of the variables solve their equations, and nothing else does.
use Rattle.std.proofs.Common.{◌≡◌, ℕ, suc, List, [], ◌∷◌, Option, Some, None, refl, ap, sym, ◌∙◌}
use Rattle.std.proofs.Common.{subst}
use Rattle.std.proofs.Common.{arith, slice_get}
use Rattle.std.specs.Prelude.{Contains, IsSomeAnd, option_map}
use Rattle.std.specs.List.{filter_map}
use Rattle.std.specs.Option.{option_map_or}
use Rattle.std.proofs.lemmas.Option.{slice_get-map}
use Rattle.export_model.specs.declared.params.NameRef.{NameRef}
use Rattle.export_model.specs.declared.params.NameRef.TheVariants as name
use Rattle.export_model.specs.declared.variables.Variable.{Variable}
use Rattle.export_model.specs.Graphs.{variable_at, variable_graph}
use Rattle.export_model.specs.Names.{names_in_all, names_of_format, names_of_variable}
use Rattle.export_model.specs.Params.{params_of}
use Rattle.gtm_data.specs.Tree.{Tree, undefined}
use Rattle.reference_cycles.specs.Graph.{Refers, HasNoCycle}
use Rattle.reference_heights.specs.Along.{ReadsReferences}
use Rattle.reference_heights.proofs.Alongs.{along_unfolds, along_alone}
use Rattle.variable_kinds.proofs.Agreement.{fields_same, formatted_same, split}
use Rattle.variable_kinds.specs.Formats.{formatted}
use Rattle.variable_kinds.specs.Kinds.{of_name}
use Rattle.variable_kinds.specs.Moment.{Moment}
use Rattle.variable_kinds.specs.Resolved.{Agree}
use Rattle.gtm_variables.specs.Meaning.{fields_of, kind_value, of_place, of_variable, value_at}
use Rattle.gtm_variables.specs.Snapshot.{Snapshot}

module _ (some other : NameRef → Tree) where
  -- the names in a variable's parameters, and those in its format
  parts : (variable : Variable) → Agree some other (names_of_variable variable)
      → Agree some other (names_in_all (params_of variable.params))
      × Agree some other (names_of_format variable.format)
  parts variable same =
      split (λ name. some name ≡ other name) (names_in_all (params_of variable.params))
      (names_of_format variable.format) same

  pub own_fields_same : (variable : Variable) → Agree some other (names_of_variable variable)
      → fields_of some variable ≡ fields_of other variable
  own_fields_same variable same =
      fields_same some other variable.kind variable.params (parts variable same).0

  pub variable_same : (s : Snapshot) (at : ℕ) (variable : Variable)
      → Agree some other (names_of_variable variable)
      → of_variable s some at variable ≡ of_variable s other at variable
  variable_same s at variable same =
      ap (λ fields. formatted some variable.format (kind_value s at variable.kind fields))
      (own_fields_same variable same)
      ∙ formatted_same some other variable.format
      (kind_value s at variable.kind (fields_of other variable)) (parts variable same).1

-- where the variables that names stand for have the same values, so have the names
pub names_same : (m : Moment) (some other : ℕ → Tree) (names : List NameRef)
    → ((at : ℕ) → Contains (filter_map variable_at names) at → some at ≡ other at)
    → Agree (of_name m some) (of_name m other) names
names_same m some other [] same = tt
names_same m some other (name.Variable at ∷ names) same = (
  same at (0, omega arith, refl),
  names_same m some other names
      (λ place has. same place (suc has.0, omega (arith, has.1), has.2)),
)
names_same m some other (name.BuiltIn at ∷ names) same =
    (refl, names_same m some other names same)
names_same m some other (name.EventName ∷ names) same =
    (refl, names_same m some other names same)
names_same m some other (name.Nothing ∷ names) same =
    (refl, names_same m some other names same)

abbrev named : Variable → List ℕ
named variable = filter_map variable_at (names_of_variable variable)

-- the value at a place reads the values of those that the place refers to
place_reads : (s : Snapshot) → ReadsReferences (variable_graph s.moment.container) (of_place s)
place_reads s = record {
  same = λ some other at same.
      by_entry some other at (slice_get s.moment.container.variables at)
      (slice_get-map named s.moment.container.variables at) same;
} where
  by_entry : (some other : ℕ → Tree) (at : ℕ) (entry : Option Variable)
      → slice_get (variable_graph s.moment.container) at ≡ option_map named entry
      → ((to : ℕ) → Refers (variable_graph s.moment.container) at to → some to ≡ other to)
      → option_map_or (of_variable s (of_name s.moment some) at) entry undefined
      ≡ option_map_or (of_variable s (of_name s.moment other) at) entry undefined
  by_entry some other at None is same = refl
  by_entry some other at (Some variable) is same =
      variable_same (of_name s.moment some) (of_name s.moment other) s at variable
      (names_same s.moment some other (names_of_variable variable)
      (λ to has.
      same to (subst (λ places. IsSomeAnd places (λ ps. Contains ps to)) (sym is) has)))

-- the values of the variables solve the equations
value_unfolds : (s : Snapshot) → HasNoCycle (variable_graph s.moment.container) → (at : ℕ)
    → value_at s at ≡ of_place s (value_at s) at
unfolding value_at
value_unfolds s none at =
    along_unfolds (variable_graph s.moment.container) (of_place s) undefined (place_reads s) none
    at

-- and nothing else does
pub value_alone : (s : Snapshot) → HasNoCycle (variable_graph s.moment.container)
    → (values : ℕ → Tree) → ((at : ℕ) → values at ≡ of_place s values at) → (at : ℕ)
    → values at ≡ value_at s at
unfolding value_at
value_alone s none values solves at =
    along_alone (variable_graph s.moment.container) (of_place s) undefined (place_reads s) none
    values solves at

-- the value of a variable, from the values of the names in it
pub variable_unfolds : (s : Snapshot) → HasNoCycle (variable_graph s.moment.container)
    → (at : ℕ) (variable : Variable)
    → slice_get s.moment.container.variables at ≡ Some variable
    → value_at s at ≡ of_variable s (of_name s.moment (value_at s)) at variable
variable_unfolds s none at variable is =
    value_unfolds s none at
    ∙ ap (λ entry. option_map_or (of_variable s (of_name s.moment (value_at s)) at) entry undefined)
    is
