-- Custom templates: the first fault of one, and what it is.
use Rattle.std.specs.Prelude.{ℕ, List, Option, codes}
use Rattle.serde_json.specs.Data.{Data}
use Rattle.export_fields.specs.Fault.{◌then◌}
use Rattle.export_fields.specs.Fields.{not_object, required_text_fault, text_fault, text_at}
use Rattle.export_fields.specs.Fields.{not_text, as_text}
use Rattle.export_fields.specs.Objects.{object_fault, object_at}
use Rattle.export_entries.specs.declared.templates.WrittenGallery.{WrittenGallery}
use Rattle.export_entries.specs.declared.templates.WrittenTemplate.{WrittenTemplate}

-- the fault of where a template came from
unfoldable pub gallery_fault : Data → Option (List ℕ)
gallery_fault d =
    not_object d
    then object_fault not_text (codes "galleryTemplateId") d

-- where a template came from
unfoldable pub written_gallery : Data → WrittenGallery
written_gallery d = record { id = object_at as_text (codes "galleryTemplateId") d }

-- the fault of a template
unfoldable pub template_fault : Data → Option (List ℕ)
template_fault d =
    not_object d
    then required_text_fault (codes "templateId") d
    then required_text_fault (codes "templateData") d
    then text_fault (codes "containerId") d
    then text_fault (codes "name") d
    then object_fault gallery_fault (codes "galleryReference") d

-- the template that a value stands for
unfoldable pub written_template : Data → WrittenTemplate
written_template d = record {
  id = text_at (codes "templateId") d;
  sections = text_at (codes "templateData") d;
  container = text_at (codes "containerId") d;
  name = text_at (codes "name") d;
  gallery = object_at written_gallery (codes "galleryReference") d;
}
