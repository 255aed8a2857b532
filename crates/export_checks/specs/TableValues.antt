-- Tables of custom templates, and what their uses give for them.
use Rattle.std.specs.Prelude.{ℕ, List, [], Bool, true, false, Option, Some, None, ◌&&◌, not, map}
use Rattle.std.specs.Prelude.{filter, is_some, if◌then◌else◌, codes, option_and_then, slice_get}
use Rattle.std.specs.List.{list_all}
use Rattle.std.specs.Option.{option_map_or}
use Rattle.text_places.specs.Places.{place_of}
use Rattle.export_fields.specs.Fault.{◌then◌}
use Rattle.export_fields.specs.declared.params.ParamKind.{ParamKind}
use Rattle.export_fields.specs.declared.params.ParamKind.TheVariants as kinds
use Rattle.export_fields.specs.declared.params.WrittenParam.{WrittenParam, out-WrittenParam}
use Rattle.export_entries.specs.declared.entries.WrittenEntries.{WrittenEntries}
use Rattle.export_model.specs.declared.templates.FieldName.{FieldName}
use Rattle.export_names.specs.Types.{TypeLists, types_of, template_at}
use Rattle.export_names.specs.Values.{is_list}
use Rattle.export_templates.specs.Readings.{known_fields}
use Rattle.export_templates.specs.declared.readings.TemplateReading.{TemplateReading}
use Rattle.export_checks.specs.FirstFault.{list_fault}

-- the names of the tables among fields
abbrev pub table_names : List FieldName → List (List ℕ)
table_names fields = map (λ field. field.name) (filter (λ field. field.table) fields)

-- the names of the tables of each template
abbrev pub tables_of : List TemplateReading → List (List (List ℕ))
tables_of readings = map (λ reading. table_names (known_fields reading)) readings

-- a kind is that of maps
abbrev pub is_map : ParamKind → Bool
is_map kinds.Template = false
is_map kinds.Integer = false
is_map kinds.Boolean = false
is_map kinds.List = false
is_map kinds.Map = true
is_map kinds.TriggerReference = false
is_map kinds.TagReference = false

-- each of these parameters is a MAP
abbrev pub are_maps : List WrittenParam → Bool
are_maps params = list_all (λ param. is_map (out-WrittenParam param).kind) params

-- a parameter is a LIST of MAPs
abbrev pub is_map_list : WrittenParam → Bool
is_map_list param = is_list (out-WrittenParam param).kind && are_maps (out-WrittenParam param).list

-- the fault of a parameter: itself, where it is given for one of these tables and is none
abbrev pub param_fault : List (List ℕ) → WrittenParam → Option (List ℕ)
param_fault names param =
    if is_some (place_of (out-WrittenParam param).key names) && not (is_map_list param) then Some []
    else None

-- the first fault of parameters that are given to a template with these tables
abbrev pub params_fault : List (List ℕ) → List WrittenParam → Option (List ℕ)
params_fault names params = list_fault (codes "parameter") (param_fault names) params

-- the first fault of the parameters of an entry of this type, by the tables of each template
abbrev pub use_fault : TypeLists → List (List (List ℕ)) → List ℕ → List WrittenParam
    → Option (List ℕ)
use_fault types tables kind params =
    option_map_or (λ names. params_fault names params)
    (option_and_then (slice_get tables) (template_at types kind)) None

-- the first fault of the parameters of tags, then of those of variables
abbrev pub uses_fault : TypeLists → List (List (List ℕ)) → WrittenEntries → Option (List ℕ)
uses_fault types tables written =
    list_fault (codes "tag") (λ tag. use_fault types tables tag.kind tag.params) written.tags
    then list_fault (codes "variable")
    (λ variable. use_fault types tables variable.kind variable.params) written.variables

-- the path of the first parameter that is given for a table and is none
abbrev pub table_value : List TemplateReading → WrittenEntries → Option (List ℕ)
table_value readings written = uses_fault (types_of written.templates) (tables_of readings) written
