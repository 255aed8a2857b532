-- A container version: the first fault of it, and what it is.
use Rattle.std.specs.Prelude.{ℕ, List, Option, codes}
use Rattle.serde_json.specs.Data.{Data}
use Rattle.export_fields.specs.Fault.{◌then◌}
use Rattle.export_fields.specs.Fields.{not_object, not_text, as_text, text_fault, text_at}
use Rattle.export_fields.specs.ListOf.{list_fault, list_at}
use Rattle.export_fields.specs.Objects.{object_fault, object_at}
use Rattle.export_entries.specs.Tags.{tag_fault, written_tag}
use Rattle.export_entries.specs.Templates.{template_fault, written_template}
use Rattle.export_entries.specs.Triggers.{trigger_fault, written_trigger}
use Rattle.export_entries.specs.Variables.{variable_fault, written_variable, built_in_fault, written_built_in}
use Rattle.export_entries.specs.declared.entries.WrittenContainer.{WrittenContainer}
use Rattle.export_entries.specs.declared.entries.WrittenEntries.{WrittenEntries}

-- the fault of what an export says of its container itself
unfoldable pub container_fault : Data → Option (List ℕ)
container_fault d =
    not_object d
    then text_fault (codes "publicId") d
    then list_fault not_text (codes "usageContext") d

-- what an export says of its container itself
unfoldable pub written_container : Data → WrittenContainer
written_container d = record {
  public_id = text_at (codes "publicId") d;
  contexts = list_at as_text (codes "usageContext") d;
}

-- the first fault of a container version
unfoldable pub entries_fault : Data → Option (List ℕ)
entries_fault d =
    text_fault (codes "containerVersionId") d
    then object_fault container_fault (codes "container") d
    then list_fault tag_fault (codes "tag") d
    then list_fault trigger_fault (codes "trigger") d
    then list_fault variable_fault (codes "variable") d
    then list_fault built_in_fault (codes "builtInVariable") d
    then list_fault template_fault (codes "customTemplate") d

-- the entries of a container version
unfoldable pub written_entries : Data → WrittenEntries
written_entries d = record {
  version_id = text_at (codes "containerVersionId") d;
  container = object_at written_container (codes "container") d;
  tags = list_at written_tag (codes "tag") d;
  triggers = list_at written_trigger (codes "trigger") d;
  variables = list_at written_variable (codes "variable") d;
  built_ins = list_at written_built_in (codes "builtInVariable") d;
  templates = list_at written_template (codes "customTemplate") d;
}
