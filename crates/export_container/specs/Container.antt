-- The container that the entries of an export stand for.
use Rattle.std.specs.Prelude.{ℕ, List, [], Option, map}
use Rattle.std.specs.Option.{option_map_or}
use Rattle.export_entries.specs.declared.entries.WrittenContainer.{WrittenContainer}
use Rattle.export_entries.specs.declared.entries.WrittenEntries.{WrittenEntries}
use Rattle.export_model.specs.declared.container.Container.{Container}
use Rattle.export_container.specs.BuiltIns.{built_in_of}
use Rattle.export_names.specs.Lists.{Lists, lists_of}
use Rattle.export_container.specs.References.{references_of}
use Rattle.export_container.specs.Tags.{tag_of}
use Rattle.export_container.specs.Templates.{templates_of}
use Rattle.export_container.specs.TriggerEntries.{trigger_of}
use Rattle.export_container.specs.Variables.{variable_of}
use Rattle.export_templates.specs.declared.readings.TemplateReading.{TemplateReading}

-- the public name of a container, empty where the export says nothing of it
abbrev pub public_id_of : Option WrittenContainer → List ℕ
public_id_of container = option_map_or (λ c. c.public_id) container []

-- the container of entries whose names become numbers by these lists, and whose templates have
-- these readings
abbrev pub container_by : Lists → List TemplateReading → WrittenEntries → Container
container_by lists readings written = record {
  public_id = public_id_of written.container;
  version_id = written.version_id;
  tags = map (tag_of lists) written.tags;
  triggers = map (trigger_of lists) written.triggers;
  variables = map (variable_of lists) written.variables;
  built_ins = map built_in_of written.built_ins;
  templates = templates_of readings written.templates;
  references = references_of lists.triggers written.tags written.triggers;
}

-- the container that entries stand for whose templates have these readings
abbrev pub container_of : List TemplateReading → WrittenEntries → Container
container_of readings written = container_by (lists_of written) readings written
