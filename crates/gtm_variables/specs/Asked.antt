-- The texts that a snapshot may hand to the engines, whether what they answer is used or not.
use Rattle.std.specs.Prelude.{ℕ, List, [], ◌∷◌, ◌++◌, Bool, codes, if◌then◌else◌}
use Rattle.std.specs.List.{flat_map, enumerate_from}
use Rattle.export_model.specs.declared.conditions.Condition.{Condition}
use Rattle.export_model.specs.declared.conditions.Op.{Op}
use Rattle.export_model.specs.declared.conditions.Op.TheVariants as op
use Rattle.export_model.specs.declared.variables.Variable.{Variable}
use Rattle.export_model.specs.Params.{value_of}
use Rattle.gtm_data.specs.TextOf.{text_of}
use Rattle.gtm_variables.specs.Meaning.{value, fields_of, kind_texts, resolved_in}
use Rattle.gtm_variables.specs.Snapshot.{Snapshot}

-- by the variable at a place
abbrev pub asked_of_variable : Snapshot → ℕ → Variable → List (List ℕ)
asked_of_variable s at variable =
    kind_texts s at variable.kind (fields_of (value s) variable)

-- the pattern of a text, in any case where that is asked
abbrev pub pattern_by : Bool → List ℕ → List ℕ
pattern_by ignore_case text = if ignore_case then codes "(?i)" ++ text else text

-- a comparison by a pattern asks with it
abbrev pub asked_of_op : Op → List ℕ → List (List ℕ)
asked_of_op op.MatchRegex pattern = pattern ∷ []
asked_of_op _ pattern = []

-- by a condition
abbrev pub asked_of_condition : Snapshot → Condition → List (List ℕ)
asked_of_condition s condition =
    asked_of_op condition.op
    (pattern_by condition.ignore_case (text_of (resolved_in s (value_of condition.right.value))))

-- by all variables
abbrev pub asked_of_variables : Snapshot → List (List ℕ)
asked_of_variables s =
    flat_map (λ entry. asked_of_variable s entry.0 entry.1)
    (enumerate_from 0 s.moment.container.variables)

-- by the conditions of all triggers
abbrev pub asked_of_triggers : Snapshot → List (List ℕ)
asked_of_triggers s =
    flat_map (λ trigger. flat_map (asked_of_condition s) trigger.conditions)
    s.moment.container.triggers

-- by the snapshot
abbrev pub asked : Snapshot → List (List ℕ)
asked s = asked_of_variables s ++ asked_of_triggers s
