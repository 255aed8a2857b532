-- Priorities that are no whole numbers.
use Rattle.std.specs.Prelude.{ℕ, List, [], Option, Some, None, is_some, if◌then◌else◌, codes}
use Rattle.std.specs.Option.{option_map_or}
use Rattle.gtm_data.specs.WholeText.{whole_text}
use Rattle.export_fields.specs.Fault.{in_key}
use Rattle.export_fields.specs.declared.params.WrittenParam.{WrittenParam}
use Rattle.export_entries.specs.declared.entries.WrittenEntries.{WrittenEntries}
use Rattle.export_entries.specs.declared.tags.WrittenTag.{WrittenTag}
use Rattle.export_names.specs.Values.{value_of}
use Rattle.export_checks.specs.FirstFault.{list_fault}

-- the fault of a priority whose text is no whole number
abbrev pub priority_fault : WrittenParam → Option (List ℕ)
priority_fault param =
    if is_some (whole_text (value_of param)) then None else Some (in_key (codes "priority") [])

-- the fault of a tag's priority: an absent one has none
abbrev pub tag_priority_fault : WrittenTag → Option (List ℕ)
tag_priority_fault tag = option_map_or priority_fault tag.priority None

-- the path of the first priority that is no whole number
abbrev pub priority_text : WrittenEntries → Option (List ℕ)
priority_text written = list_fault (codes "tag") tag_priority_fault written.tags
