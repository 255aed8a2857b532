-- Setup and teardown tags that no tag is.
use Rattle.std.specs.Prelude.{ℕ, List, [], Option, Some, None, is_some, map, if◌then◌else◌, codes}
use Rattle.std.specs.Option.{option_map_or}
use Rattle.text_places.specs.Places.{place_of}
use Rattle.export_fields.specs.Fault.{in_key, in_index, ◌then◌}
use Rattle.export_entries.specs.declared.entries.WrittenEntries.{WrittenEntries}
use Rattle.export_entries.specs.declared.tags.WrittenTag.{WrittenTag}
use Rattle.export_checks.specs.FirstFault.{list_fault}

-- the fault of a tag's name in the list at a key, where no tag has it: the name of the list's one
-- entry
abbrev pub name_fault : List (List ℕ) → List ℕ → List ℕ → Option (List ℕ)
name_fault names key name =
    if is_some (place_of name names) then None
    else Some (in_key key (in_index 0 (in_key (codes "tagName") [])))

-- the first unknown name of a tag: that of its setup tag, then that of its teardown tag
abbrev pub tag_sequence_fault : List (List ℕ) → WrittenTag → Option (List ℕ)
tag_sequence_fault names tag =
    option_map_or (λ setup. name_fault names (codes "setupTag") setup.tag) tag.turn.setup None
    then option_map_or (λ teardown. name_fault names (codes "teardownTag") teardown.tag)
    tag.turn.teardown None

-- the path of the first name of a setup or teardown tag that no tag has
abbrev pub unknown_sequence_tag : WrittenEntries → Option (List ℕ)
unknown_sequence_tag written =
    list_fault (codes "tag") (tag_sequence_fault (map (λ tag. tag.name) written.tags)) written.tags
