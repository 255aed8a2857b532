-- Tags: the first fault of one, and what it is.
use Rattle.std.specs.Prelude.{ℕ, List, Option, codes}
use Rattle.serde_json.specs.Data.{Data}
use Rattle.export_fields.specs.Fault.{◌then◌}
use Rattle.export_fields.specs.Fields.{not_object, required_text_fault, text_at, not_text, as_text}
use Rattle.export_fields.specs.ListOf.{list_fault, list_at}
use Rattle.export_fields.specs.Objects.{object_fault, object_at}
use Rattle.export_fields.specs.Params.{not_param, as_param}
use Rattle.export_entries.specs.declared.tags.WrittenTag.{WrittenTag}
use Rattle.export_entries.specs.Turns.{turn_fault, written_turn}

-- the fault of a tag
unfoldable pub tag_fault : Data → Option (List ℕ)
tag_fault d =
    not_object d
    then required_text_fault (codes "tagId") d
    then required_text_fault (codes "name") d
    then required_text_fault (codes "type") d
    then list_fault not_param (codes "parameter") d
    then list_fault not_text (codes "firingTriggerId") d
    then list_fault not_text (codes "blockingTriggerId") d
    then object_fault not_param (codes "priority") d
    then turn_fault d

-- the tag that a value stands for
unfoldable pub written_tag : Data → WrittenTag
written_tag d = record {
  id = text_at (codes "tagId") d;
  name = text_at (codes "name") d;
  kind = text_at (codes "type") d;
  params = list_at as_param (codes "parameter") d;
  firing = list_at as_text (codes "firingTriggerId") d;
  blocking = list_at as_text (codes "blockingTriggerId") d;
  priority = object_at as_param (codes "priority") d;
  turn = written_turn d;
}
