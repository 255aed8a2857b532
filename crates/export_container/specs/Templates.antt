-- The custom templates of an export as those of the model.
use Rattle.std.specs.Prelude.{◌≡◌, List, false, length, map, unwrap_or}
use Rattle.std.specs.List.{zip}
use Rattle.export_entries.specs.declared.templates.WrittenTemplate.{WrittenTemplate}
use Rattle.export_model.specs.declared.templates.Template.{Template}
use Rattle.export_names.specs.Types.{names_of}
use Rattle.export_templates.specs.Readings.{type_of, known_fields, warnings_of}
use Rattle.export_templates.specs.declared.readings.TemplateReading.{TemplateReading}

-- the template that a written one with this reading stands for; where its text does not say that
-- it is one of tags, it is one of variables
unfoldable pub template_of : TemplateReading → WrittenTemplate → Template
template_of reading written = record {
  id = written.id;
  name = written.name;
  names = names_of written;
  is_tag = unwrap_or (type_of reading) false;
  fields = known_fields reading;
  warnings = warnings_of reading;
}

-- there is one reading for each template
abbrev pub AreRead : List TemplateReading → List WrittenTemplate → Type 0
AreRead readings templates = length readings ≡ length templates

-- the templates that written ones stand for, each by its own reading
abbrev pub templates_of : List TemplateReading → List WrittenTemplate → List Template
templates_of readings templates =
    map (λ read. template_of read.0 read.1) (zip readings templates)
