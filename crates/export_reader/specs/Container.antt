-- The container that an export stands for.
use Rattle.std.specs.Prelude.{ℕ, List, Option, option_map, option_and_then}
use Rattle.serde_json.specs.Data as json
use Rattle.gtm_data.specs.Json.{json_of}
use Rattle.export_entries.specs.Entries.{written_entries}
use Rattle.export_entries.specs.declared.entries.WrittenEntries.{WrittenEntries}
use Rattle.export_model.specs.declared.container.Container.{Container}
use Rattle.export_container.specs.Container.{container_of}
use Rattle.export_reader.specs.Rules.{version_in}
use Rattle.export_reader.specs.declared.loading.Loaded.{Loaded}
use Rattle.export_templates.specs.Readings.{readings_of}
use Rattle.export_templates.specs.declared.readings.TemplateReading.{TemplateReading}

-- the container version of an export's bytes, where there is one
abbrev pub version_of : List ℕ → Option json.Data
version_of bytes = option_and_then version_in (json_of bytes)

-- what the templates of a container version are read as
abbrev pub readings_at : json.Data → List TemplateReading
readings_at version = readings_of (written_entries version).templates

-- what is loaded of entries whose templates have these readings
abbrev pub loaded_of : List TemplateReading → WrittenEntries → Loaded
loaded_of readings written = record { container = container_of readings written }

-- what is loaded of a container version
abbrev pub loaded_at : json.Data → Loaded
loaded_at version = loaded_of (readings_at version) (written_entries version)

-- the container of an export's bytes, where they have a container version
abbrev pub container_in : List ℕ → Option Container
container_in bytes = option_map (λ version. (loaded_at version).container) (version_of bytes)
