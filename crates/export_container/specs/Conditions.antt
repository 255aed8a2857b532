-- The conditions of an export as those of the model.
use Rattle.std.specs.Prelude.{ℕ, List, [], ◌∷◌, ◌++◌, Bool, false, map, unwrap_or, codes}
use Rattle.std.specs.Option.{option_map_or}
use Rattle.std.specs.Str.{bytes_eq}
use Rattle.folded_words.specs.Words.{among, folded}
use Rattle.export_fields.specs.declared.params.WrittenParam.{WrittenParam}
use Rattle.export_entries.specs.declared.conditions.WrittenCondition.{WrittenCondition}
use Rattle.export_entries.specs.declared.triggers.WrittenTrigger.{WrittenTrigger}
use Rattle.export_model.specs.declared.conditions.Condition.{Condition}
use Rattle.export_model.specs.declared.conditions.Op.{Op}
use Rattle.export_model.specs.declared.conditions.Op.TheVariants.{Equals, Contains, StartsWith}
use Rattle.export_model.specs.declared.conditions.Op.TheVariants.{EndsWith, Greater}
use Rattle.export_model.specs.declared.conditions.Op.TheVariants.{GreaterOrEquals, Less}
use Rattle.export_model.specs.declared.conditions.Op.TheVariants.{LessOrEquals, MatchRegex, Never}
use Rattle.export_model.specs.declared.params.Param.{Param}
use Rattle.export_model.specs.declared.params.ParamValue.{roll-ParamValue}
use Rattle.export_model.specs.declared.params.ParamValue.TheOpen.{ParamValue-F}
use Rattle.export_names.specs.Names.{NameLists}
use Rattle.export_names.specs.Params.{param_of}
use Rattle.export_names.specs.Values.{value_of, first_with}

-- the comparisons, by their words
abbrev pub op_words : List (List ℕ × Op)
op_words =
    (codes "equals", Equals)
    ∷ (codes "contains", Contains)
    ∷ (codes "startswith", StartsWith)
    ∷ (codes "endswith", EndsWith)
    ∷ (codes "greater", Greater)
    ∷ (codes "greaterorequals", GreaterOrEquals)
    ∷ (codes "less", Less)
    ∷ (codes "lessorequals", LessOrEquals)
    ∷ (codes "matchregex", MatchRegex)
    ∷ []

-- the comparison of a type: of another one, none that ever holds
abbrev pub op_of : List ℕ → Op
op_of kind = unwrap_or (among op_words (folded kind)) (Never kind)

-- a parameter with no characters
abbrev pub empty_param : List ℕ → Param
empty_param key = record { key = key; value = roll-ParamValue (ParamValue-F.Template []) }

-- a side of a condition: the first parameter with its key, or one with no characters
abbrev pub side_of : NameLists → List ℕ → List WrittenParam → Param
side_of names key params = option_map_or (param_of names) (first_with key params) (empty_param key)

-- whether the text of the first parameter with a key is `true`
abbrev pub is_on : List ℕ → List WrittenParam → Bool
is_on key params =
    option_map_or (λ param. bytes_eq (value_of param) (codes "true")) (first_with key params) false

-- the condition that a written one stands for
abbrev pub condition_of : NameLists → WrittenCondition → Condition
condition_of names written = record {
  op = op_of written.kind;
  left = side_of names (codes "arg0") written.params;
  right = side_of names (codes "arg1") written.params;
  negate = is_on (codes "negate") written.params;
  ignore_case = is_on (codes "ignore_case") written.params;
}

-- the conditions of a trigger: those of its custom event, its filter and its auto-event filter
abbrev pub conditions_of : NameLists → WrittenTrigger → List Condition
conditions_of names written =
    map (condition_of names) written.custom ++ map (condition_of names) written.filter
    ++ map (condition_of names) written.auto
