-- The parameters of an export as those of the model.
use Rattle.std.specs.Prelude.{ℕ, List, Option, Some, None, Bool, true, false, map, codes}
use Rattle.std.specs.Prelude.{if◌then◌else◌}
use Rattle.std.specs.Option.{option_map_or}
use Rattle.std.specs.Str.{bytes_eq}
use Rattle.gtm_data.specs.WholeText.{whole_text}
use Rattle.export_fields.specs.declared.params.ParamKind.{ParamKind}
use Rattle.export_fields.specs.declared.params.ParamKind.TheVariants as kinds
use Rattle.export_fields.specs.declared.params.WrittenParam.{WrittenParam, fold-WrittenParam}
use Rattle.export_fields.specs.declared.params.WrittenParam.TheOpen.{WrittenParam-F}
use Rattle.export_model.specs.declared.params.Param.{Param}
use Rattle.export_model.specs.declared.params.ParamValue.{ParamValue, roll-ParamValue}
use Rattle.export_model.specs.declared.params.ParamValue.TheOpen.{ParamValue-F}
use Rattle.export_names.specs.Names.{NameLists, pieces_of}

-- a text in which names may stand, as a value
abbrev pub template : NameLists → List ℕ → ParamValue
template names text = roll-ParamValue (ParamValue-F.Template (pieces_of names text))

-- the whole number that a text is, as a value; of another text, its template
abbrev pub integer : NameLists → List ℕ → ParamValue
integer names text =
    option_map_or (λ number. roll-ParamValue (ParamValue-F.Integer number)) (whole_text text)
    (template names text)

-- the truth that a text is
abbrev pub truth_of : List ℕ → Option Bool
truth_of text =
    if bytes_eq text (codes "true") then Some true else if bytes_eq text (codes "false")
    then Some false else None

-- the truth that a text is, as a value; of another text, its template
abbrev pub boolean : NameLists → List ℕ → ParamValue
boolean names text =
    option_map_or (λ truth. roll-ParamValue (ParamValue-F.Bool truth)) (truth_of text)
    (template names text)

-- the value of a parameter of this kind and text, with these parameters in its list and its map
abbrev pub value_with : NameLists → ParamKind → List ℕ → List Param → List Param → ParamValue
value_with names kinds.Template text list members = template names text
value_with names kinds.Integer text list members = integer names text
value_with names kinds.Boolean text list members = boolean names text
value_with names kinds.List text list members = roll-ParamValue (ParamValue-F.List list)
value_with names kinds.Map text list members = roll-ParamValue (ParamValue-F.Map members)
value_with names kinds.TriggerReference text list members =
    roll-ParamValue (ParamValue-F.Reference text)
value_with names kinds.TagReference text list members =
    roll-ParamValue (ParamValue-F.Reference text)

-- one level, with each parameter inside already turned
abbrev pub param_step : NameLists → WrittenParam-F Param → Param
param_step names written =
    record {
      key =
          written.key;
      value = value_with names written.kind written.value written.list written.map;
    }

-- the parameter of the model that a written one stands for
abbrev pub param_of : NameLists → WrittenParam → Param
param_of names = fold-WrittenParam Param (param_step names)

-- the parameters of the model that written ones stand for, in order
abbrev pub params_of : NameLists → List WrittenParam → List Param
params_of names = map (param_of names)
