-- The rules of an export, each by itself: what it is to break one.
use Rattle.std.specs.Prelude.{◌≡◌, ℕ, List, Option, Some, option_and_then}
use Rattle.serde_json.specs.Data as json
use Rattle.gtm_data.specs.Json.{json_of}
use Rattle.gtm_data.specs.Plain.{not_whole, too_deep}
use Rattle.export_entries.specs.Entries.{written_entries}
use Rattle.export_entries.specs.declared.entries.WrittenEntries.{WrittenEntries}
use Rattle.export_model.specs.declared.container.Container.{Container}
use Rattle.export_reader.specs.Container.{version_of, readings_at, loaded_at}
use Rattle.export_reader.specs.Rules.{too_large, not_json, other_format, no_version, not_web}
use Rattle.export_reader.specs.Rules.{field_kind, duplicate_id, duplicate_name, unknown_trigger}
use Rattle.export_reader.specs.Rules.{unknown_sequence_tag, unknown_template, variable_cycle}
use Rattle.export_reader.specs.Rules.{group_cycle, priority_text, section_repeated}
use Rattle.export_reader.specs.Rules.{section_missing, text_before, info_form, fields_form}
use Rattle.export_reader.specs.Rules.{table_value, permissions_form, not_built}
use Rattle.export_templates.specs.declared.readings.TemplateReading.{TemplateReading}

-- a rule on the JSON tree that bytes are, where they are one
abbrev pub of_tree : (json.Data → Option (List ℕ)) → List ℕ → Option (List ℕ)
of_tree rule bytes = option_and_then rule (json_of bytes)

-- a rule on the container version of that tree, where it has one
abbrev pub of_version : (json.Data → Option (List ℕ)) → List ℕ → Option (List ℕ)
of_version rule bytes = option_and_then rule (version_of bytes)

-- a rule on the entries of that version
abbrev pub of_entries : (WrittenEntries → Option (List ℕ)) → List ℕ → Option (List ℕ)
of_entries rule = of_version (λ version. rule (written_entries version))

-- a rule on what the templates among them are read as
abbrev pub of_readings : (List TemplateReading → Option (List ℕ)) → List ℕ → Option (List ℕ)
of_readings rule = of_version (λ version. rule (readings_at version))

-- a rule on both
abbrev pub of_uses : (List TemplateReading → WrittenEntries → Option (List ℕ)) → List ℕ
    → Option (List ℕ)
of_uses rule = of_version (λ version. rule (readings_at version) (written_entries version))

-- a rule on the container that they stand for
abbrev pub of_container : (Container → Option (List ℕ)) → List ℕ → Option (List ℕ)
of_container rule = of_version (λ version. rule (loaded_at version).container)

-- the bytes break this rule, first at this path
pub data Breaks (bytes : List ℕ) (rule : ℕ) (path : List ℕ) : Type 0 where
  by_size : rule ≡ 1 → too_large bytes ≡ Some path → Breaks bytes rule path
  by_text : rule ≡ 2 → not_json (json_of bytes) ≡ Some path → Breaks bytes rule path
  by_number : rule ≡ 3 → of_tree not_whole bytes ≡ Some path → Breaks bytes rule path
  by_depth : rule ≡ 4 → of_tree too_deep bytes ≡ Some path → Breaks bytes rule path
  by_format : rule ≡ 5 → of_tree other_format bytes ≡ Some path → Breaks bytes rule path
  by_version : rule ≡ 6 → of_tree no_version bytes ≡ Some path → Breaks bytes rule path
  by_context : rule ≡ 7 → of_version not_web bytes ≡ Some path → Breaks bytes rule path
  by_field : rule ≡ 8 → of_version field_kind bytes ≡ Some path → Breaks bytes rule path
  by_id : rule ≡ 9 → of_entries duplicate_id bytes ≡ Some path → Breaks bytes rule path
  by_name : rule ≡ 10 → of_entries duplicate_name bytes ≡ Some path → Breaks bytes rule path
  by_trigger : rule ≡ 11 → of_entries unknown_trigger bytes ≡ Some path → Breaks bytes rule path
  by_sequence_tag : rule ≡ 14 → of_entries unknown_sequence_tag bytes ≡ Some path
      → Breaks bytes rule path
  by_template : rule ≡ 15 → of_uses unknown_template bytes ≡ Some path → Breaks bytes rule path
  by_variable_cycle : rule ≡ 16 → of_container variable_cycle bytes ≡ Some path
      → Breaks bytes rule path
  by_group_cycle : rule ≡ 17 → of_container group_cycle bytes ≡ Some path → Breaks bytes rule path
  by_priority : rule ≡ 18 → of_entries priority_text bytes ≡ Some path → Breaks bytes rule path
  by_repeat : rule ≡ 19 → of_readings section_repeated bytes ≡ Some path → Breaks bytes rule path
  by_lack : rule ≡ 20 → of_readings section_missing bytes ≡ Some path → Breaks bytes rule path
  by_front : rule ≡ 21 → of_readings text_before bytes ≡ Some path → Breaks bytes rule path
  by_info : rule ≡ 22 → of_readings info_form bytes ≡ Some path → Breaks bytes rule path
  by_fields : rule ≡ 23 → of_readings fields_form bytes ≡ Some path → Breaks bytes rule path
  by_table : rule ≡ 24 → of_uses table_value bytes ≡ Some path → Breaks bytes rule path
  by_permissions : rule ≡ 25 → of_readings permissions_form bytes ≡ Some path
      → Breaks bytes rule path
  by_what_is_built : rule ≡ 29 → of_entries not_built bytes ≡ Some path → Breaks bytes rule path
