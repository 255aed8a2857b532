-- The rules of an export, each by itself: the path at which it is first broken, if it is.
use Rattle.std.specs.Prelude.{ℕ, List, [], length, Bool, false, Option, Some, None}
use Rattle.std.specs.Prelude.{option_map, option_and_then, is_some, codes, nat_lt, ◌==◌, ◌||◌}
use Rattle.std.specs.Prelude.{if◌then◌else◌}
use Rattle.std.specs.Option.{option_map_or}
use Rattle.std.specs.Str.{bytes_eq, chars}
use Rattle.serde_json.specs.Data as json
use Rattle.serde_json.specs.Find.{get, as_number, as_u64, as_object, as_str}
use Rattle.export_fields.specs.Fault.{in_key, in_index}
use Rattle.folded_words.specs.Words.{folded}
use Rattle.export_entries.specs.Entries.{entries_fault}
use Rattle.export_entries.specs.declared.entries.WrittenEntries.{WrittenEntries}
use Rattle.export_model.specs.Graphs.{variable_graph, group_graph}
use Rattle.export_model.specs.declared.container.Container.{Container}
use Rattle.export_reader.specs.declared.top.TheConstants.{MAX_EXPORT}
use Rattle.export_checks.specs.NotBuilt as built
use Rattle.export_checks.specs.Priorities as priorities
use Rattle.export_checks.specs.Repeats as repeats
use Rattle.export_checks.specs.TableValues as tables
use Rattle.export_checks.specs.TemplateTexts as texts
use Rattle.export_checks.specs.UnknownTags as tags
use Rattle.export_checks.specs.UnknownTriggers as triggers
use Rattle.export_checks.specs.UnknownTypes as types
use Rattle.export_templates.specs.declared.readings.TemplateReading.{TemplateReading}
use Rattle.reference_cycles.specs.Closure.{first_cycle}

-- rule 1: it has over `MAX_EXPORT` bytes
abbrev pub too_large : List ℕ → Option (List ℕ)
too_large bytes = if nat_lt MAX_EXPORT (length bytes) then Some [] else None

-- rule 2: it is no JSON text in UTF-8
abbrev pub not_json : Option json.Data → Option (List ℕ)
not_json None = Some []
not_json (Some d) = None

-- whether there is a number and it is 2
abbrev pub is_two : Option ℕ → Bool
is_two None = false
is_two (Some number) = number == 2

-- rule 5: its format is not the number 2
abbrev pub other_format : json.Data → Option (List ℕ)
other_format d =
    let number = option_and_then as_number (get (codes "exportFormatVersion") d) in
    if is_two (option_and_then as_u64 number) then None
    else Some (in_key (codes "exportFormatVersion") [])

-- the same value, where it is an object
abbrev pub only_object : json.Data → Option json.Data
only_object d = if is_some (as_object d) then Some d else None

-- the container version, where it is an object
abbrev pub version_in : json.Data → Option json.Data
version_in d = option_and_then only_object (get (codes "containerVersion") d)

-- rule 6: its container version is no object
abbrev pub no_version : json.Data → Option (List ℕ)
no_version d = if is_some (version_in d) then None else Some (in_key (codes "containerVersion") [])

-- whether a text is the word web
abbrev pub is_web : json.Data → Bool
is_web d = option_map_or (λ text. bytes_eq (folded (chars text)) (codes "web")) (as_str d) false

-- whether the word web is among these
abbrev pub has_web : json.Items → Bool
has_web json.no_items = false
has_web (json.item d ds) = is_web d || has_web ds

-- whether it is a list with the word web
abbrev pub lists_web : json.Data → Bool
lists_web (json.array ds) = has_web ds
lists_web _ = false

-- what the container of a version is used in, if it says so
abbrev pub context_of : json.Data → Option json.Data
context_of version = option_and_then (get (codes "usageContext")) (get (codes "container") version)

-- the path of what the container is used in
abbrev pub context_path : List ℕ
context_path =
    in_key (codes "containerVersion")
    (in_key (codes "container") (in_key (codes "usageContext") []))

-- rule 7: the container says what it is used in, and web is not among that
abbrev pub not_web : json.Data → Option (List ℕ)
not_web version =
    option_map_or (λ context. if lists_web context then None else Some context_path)
    (context_of version) None

-- rule 8: a field has another kind than it needs
abbrev pub field_kind : json.Data → Option (List ℕ)
field_kind version = option_map (in_key (codes "containerVersion")) (entries_fault version)

-- the path of an entry of a container version
abbrev pub entry_path : List ℕ → ℕ → List ℕ
entry_path key at = in_key (codes "containerVersion") (in_key key (in_index at []))

-- a path from the container version, as one from the top
abbrev pub in_version : Option (List ℕ) → Option (List ℕ)
in_version path = option_map (in_key (codes "containerVersion")) path

-- rule 9: an entry has the id of an earlier one of its list
unfoldable pub duplicate_id : WrittenEntries → Option (List ℕ)
duplicate_id written = in_version (repeats.duplicate_id written)

-- rule 10: a tag has the name of an earlier one, or a variable that of an earlier one
unfoldable pub duplicate_name : WrittenEntries → Option (List ℕ)
duplicate_name written = in_version (repeats.duplicate_name written)

-- rule 11: the number of a trigger stands for none
unfoldable pub unknown_trigger : WrittenEntries → Option (List ℕ)
unknown_trigger written = in_version (triggers.unknown_trigger written)

-- rule 14: a setup or teardown tag has the name of no tag
unfoldable pub unknown_sequence_tag : WrittenEntries → Option (List ℕ)
unknown_sequence_tag written = in_version (tags.unknown_sequence_tag written)

-- rule 15: the type of a custom template is answered by none
unfoldable pub unknown_template : List TemplateReading → WrittenEntries → Option (List ℕ)
unknown_template readings written = in_version (types.unknown_template readings written)

-- rule 16: a variable refers to itself, by names in parameters and formats
unfoldable pub variable_cycle : Container → Option (List ℕ)
variable_cycle c = option_map (entry_path (codes "variable")) (first_cycle (variable_graph c))

-- rule 17: a group of triggers is among its own members, or theirs
unfoldable pub group_cycle : Container → Option (List ℕ)
group_cycle c = option_map (entry_path (codes "trigger")) (first_cycle (group_graph c))

-- rule 18: the text of a priority is no whole number
unfoldable pub priority_text : WrittenEntries → Option (List ℕ)
priority_text written = in_version (priorities.priority_text written)

-- rule 19: a heading stands twice in the text of a template
unfoldable pub section_repeated : List TemplateReading → Option (List ℕ)
section_repeated readings = in_version (texts.readings_fault texts.repeat_place readings)

-- rule 20: a template has no INFO, or no script for web containers
unfoldable pub section_missing : List TemplateReading → Option (List ℕ)
section_missing readings = in_version (texts.readings_fault texts.lack_place readings)

-- rule 21: text stands before the first heading of a template
unfoldable pub text_before : List TemplateReading → Option (List ℕ)
text_before readings = in_version (texts.readings_fault texts.front_place readings)

-- rule 22: the INFO of a template does not say what it is
unfoldable pub info_form : List TemplateReading → Option (List ℕ)
info_form readings = in_version (texts.readings_fault texts.info_place readings)

-- rule 23: the parameters of a template have not the form of fields
unfoldable pub fields_form : List TemplateReading → Option (List ℕ)
fields_form readings = in_version (texts.readings_fault texts.fields_place readings)

-- rule 24: a template is given something else for a table
unfoldable pub table_value : List TemplateReading → WrittenEntries → Option (List ℕ)
table_value readings written = in_version (tables.table_value readings written)

-- rule 25: the permissions of a template have not the form of them
unfoldable pub permissions_form : List TemplateReading → Option (List ℕ)
permissions_form readings = in_version (texts.readings_fault texts.permissions_place readings)

-- rule 29: there is an entry, of which none is run yet
unfoldable pub not_built : WrittenEntries → Option (List ℕ)
not_built written = in_version (built.not_built written)
