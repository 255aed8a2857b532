-- What custom templates are read as.
use Rattle.std.specs.Prelude.{ℕ, List, [], Bool, Option, None, map, Result, Ok, Err, unwrap_or}
use Rattle.std.specs.Prelude.{encode_utf8_all}
use Rattle.std.specs.Option.{option_map_or}
use Rattle.export_entries.specs.declared.templates.WrittenTemplate.{WrittenTemplate}
use Rattle.export_model.specs.declared.templates.FieldName.{FieldName}
use Rattle.template_sections.specs.Scan.{sections_of}
use Rattle.template_sections.specs.declared.cutting.SectionEnd.{SectionEnd}
use Rattle.template_sections.specs.declared.cutting.SectionEnd.TheVariants as end
use Rattle.template_sections.specs.declared.cutting.Sections.{Sections}
use Rattle.export_templates.specs.Parts.{parts_of}
use Rattle.export_templates.specs.declared.readings.SectionFault.TheVariants.{Repeated, Missing}
use Rattle.export_templates.specs.declared.readings.SectionFault.TheVariants.{Before}
use Rattle.export_templates.specs.declared.readings.TemplateReading.{TemplateReading}
use Rattle.export_templates.specs.declared.readings.TemplateReading.TheVariants.{Uncut, Parts}

-- what a text is read as that has these sections, or why it has none; that memory was wanting is
-- said of no text
abbrev pub reading_with : List ℕ → Result Sections SectionEnd → TemplateReading
reading_with text (Ok sections) = Parts (parts_of text sections)
reading_with text (Err (end.Repeated place)) = Uncut (Repeated place)
reading_with text (Err end.Missing) = Uncut Missing
reading_with text (Err (end.Before place)) = Uncut (Before place)
reading_with text (Err end.OutOfMemory) = Uncut Missing

-- what a text is read as, in bytes
abbrev pub read_text : List ℕ → TemplateReading
read_text text = reading_with text (sections_of text)

-- what a template's text is read as
unfoldable pub reading_of : List ℕ → TemplateReading
reading_of text = read_text (encode_utf8_all text)

-- the readings of templates, each of the template's own text
abbrev pub readings_of : List WrittenTemplate → List TemplateReading
readings_of templates = map (λ template. reading_of template.sections) templates

-- whether it is a template of tags, or one of variables
abbrev pub type_of : TemplateReading → Option Bool
type_of (Uncut fault) = None
type_of (Parts parts) = parts.is_tag

-- its fields
abbrev pub known_fields : TemplateReading → List FieldName
known_fields (Uncut fault) = []
known_fields (Parts parts) = unwrap_or parts.fields []

-- what of its permissions was not understood
abbrev pub warnings_of : TemplateReading → List (List ℕ)
warnings_of (Uncut fault) = []
warnings_of (Parts parts) = option_map_or (λ p. p.warnings) parts.permissions []
