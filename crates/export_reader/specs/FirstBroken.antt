-- The first broken rule of an export.
use Rattle.std.specs.Prelude.{◌≡◌, ℕ, List, [], ◌∷◌, Option, Some, None, option_map, slice_get}
use Rattle.std.specs.Prelude.{Result, Ok, Err}
use Rattle.std.specs.List.{filter_map}
use Rattle.std.specs.Option.{option_map_or}
use Rattle.serde_json.specs.Data as json
use Rattle.gtm_data.specs.Json.{json_of}
use Rattle.gtm_data.specs.Plain.{not_whole, too_deep}
use Rattle.export_entries.specs.Entries.{written_entries}
use Rattle.export_entries.specs.declared.entries.WrittenEntries.{WrittenEntries}
use Rattle.export_model.specs.declared.container.Container.{Container}
use Rattle.export_container.specs.Container.{container_of}
use Rattle.export_reader.specs.Rules.{too_large, not_json, other_format, version_in, no_version}
use Rattle.export_reader.specs.Rules.{not_web, field_kind, duplicate_id, duplicate_name}
use Rattle.export_reader.specs.Rules.{unknown_trigger, unknown_sequence_tag, unknown_template}
use Rattle.export_reader.specs.Rules.{variable_cycle, group_cycle, priority_text, section_repeated}
use Rattle.export_reader.specs.Rules.{section_missing, text_before, info_form, fields_form}
use Rattle.export_reader.specs.Rules.{table_value, permissions_form, not_built}
use Rattle.export_reader.specs.declared.top.ExportEnd.{ExportEnd}
use Rattle.export_reader.specs.declared.top.ExportEnd.TheVariants.{OutOfMemory, Refused}
use Rattle.export_templates.specs.Readings.{readings_of}
use Rattle.export_templates.specs.declared.readings.TemplateReading.{TemplateReading}

-- a rule by its number, and the path at which it is first broken
abbrev pub Rule : Type 0
Rule = ℕ × Option (List ℕ)

-- the rules of the parts of templates, and the last one
unfoldable pub part_rules : List TemplateReading → WrittenEntries → List Rule
part_rules readings written =
    (22, info_form readings)
    ∷ (23, fields_form readings)
    ∷ (24, table_value readings written)
    ∷ (25, permissions_form readings)
    ∷ (29, not_built written)
    ∷ []

-- the rules of the texts of templates
unfoldable pub text_rules : List TemplateReading → WrittenEntries → List Rule
text_rules readings written =
    (19, section_repeated readings)
    ∷ (20, section_missing readings)
    ∷ (21, text_before readings)
    ∷ part_rules readings written

-- the rules of the container that entries stand for
unfoldable pub container_rules : List TemplateReading → WrittenEntries → Container → List Rule
container_rules readings written container =
    (16, variable_cycle container)
    ∷ (17, group_cycle container)
    ∷ (18, priority_text written)
    ∷ text_rules readings written

-- the rules of what entries refer to
unfoldable pub reference_rules : List TemplateReading → WrittenEntries → List Rule
reference_rules readings written =
    (11, unknown_trigger written)
    ∷ (14, unknown_sequence_tag written)
    ∷ (15, unknown_template readings written)
    ∷ container_rules readings written (container_of readings written)

-- the rules of entries whose templates have these readings
unfoldable pub entries_rules : List TemplateReading → WrittenEntries → List Rule
entries_rules readings written =
    (9, duplicate_id written) ∷ (10, duplicate_name written) ∷ reference_rules readings written

-- the rules of a container version
unfoldable pub version_rules : json.Data → List Rule
version_rules version =
    let written = written_entries version in
    (7, not_web version)
    ∷ (8, field_kind version)
    ∷ entries_rules (readings_of written.templates) written

-- the rules of an export's JSON tree
unfoldable pub tree_rules : json.Data → List Rule
tree_rules d =
    (3, not_whole d)
    ∷ (4, too_deep d)
    ∷ (5, other_format d)
    ∷ (6, no_version d)
    ∷ option_map_or version_rules (version_in d) []

-- the rules of bytes and of the tree that they are, if they are one
unfoldable pub rules_of : List ℕ → Option json.Data → List Rule
rules_of bytes tree = (1, too_large bytes) ∷ (2, not_json tree) ∷ option_map_or tree_rules tree []

-- the rules of an export's bytes
unfoldable pub export_rules : List ℕ → List Rule
export_rules bytes = rules_of bytes (json_of bytes)

-- a rule with its path, where it is broken
abbrev pub broken : Rule → Option (ℕ × List ℕ)
broken rule = option_map (λ path. (rule.0, path)) rule.1

-- the first of these rules that is broken, with its path
abbrev pub first_of : List Rule → Option (ℕ × List ℕ)
first_of rules = slice_get (filter_map broken rules) 0

-- the first broken rule of an export's bytes, with its path
abbrev pub first_broken : List ℕ → Option (ℕ × List ℕ)
first_broken bytes = first_of (export_rules bytes)

-- a refusal names the first of these rules that is broken, and its path
abbrev pub Refuses : List Rule → ExportEnd → Type 0
Refuses rules OutOfMemory = Unit {0}
Refuses rules (Refused rule path) = first_of rules ≡ Some (rule, path)

-- where none of these rules is broken this is given, and else the first broken one is told
abbrev pub Judges : {T : Type 0} → Result T ExportEnd → List Rule → Option T → Type 0
Judges (Ok made) rules given = (first_of rules ≡ None) × (given ≡ Some made)
Judges (Err end) rules given = Refuses rules end

-- memory was wanting
abbrev pub IsOutOfMemory : ExportEnd → Type 0
IsOutOfMemory end = end ≡ OutOfMemory
