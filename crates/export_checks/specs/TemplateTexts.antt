-- The rules of a custom template's own text.
use Rattle.std.specs.Prelude.{ℕ, List, [], ◌∷◌, Option, Some, None, option_map, codes}
use Rattle.std.specs.Fmt.{decimal}
use Rattle.export_fields.specs.Fault.{in_key}
use Rattle.export_templates.specs.declared.readings.SectionFault.TheVariants.{Repeated, Missing}
use Rattle.export_templates.specs.declared.readings.SectionFault.TheVariants.{Before}
use Rattle.export_templates.specs.declared.readings.TemplateReading.{TemplateReading}
use Rattle.export_templates.specs.declared.readings.TemplateReading.TheVariants.{Uncut, Parts}
use Rattle.export_checks.specs.FirstFault.{list_fault}
use Rattle.export_checks.specs.declared.texts.TextPlace.{TextPlace}
use Rattle.export_checks.specs.declared.texts.TextPlace.TheVariants.{Whole, Byte}

-- the path of a template's text, and behind `@` the byte in it
abbrev pub place_path : TextPlace → List ℕ
place_path Whole = in_key (codes "templateData") []
place_path (Byte place) = in_key (codes "templateData") (64 ∷ decimal place)

-- the fault of a reading in which a rule is broken at a place
abbrev pub reading_fault : (TemplateReading → Option TextPlace) → TemplateReading → Option (List ℕ)
reading_fault broken reading = option_map place_path (broken reading)

-- the path of the first template whose reading breaks a rule
abbrev pub readings_fault : (TemplateReading → Option TextPlace) → List TemplateReading
    → Option (List ℕ)
readings_fault broken readings = list_fault (codes "customTemplate") (reading_fault broken) readings

-- a part that was not found breaks its rule in the whole text
abbrev pub without : {A : Type 0} → Option A → Option TextPlace
without None = Some Whole
without (Some part) = None

-- a heading stands twice: where the second one begins
abbrev pub repeat_place : TemplateReading → Option TextPlace
repeat_place (Uncut (Repeated place)) = Some (Byte place)
repeat_place (Uncut Missing) = None
repeat_place (Uncut (Before place)) = None
repeat_place (Parts parts) = None

-- INFO or the script for web containers is missing
abbrev pub lack_place : TemplateReading → Option TextPlace
lack_place (Uncut (Repeated place)) = None
lack_place (Uncut Missing) = Some Whole
lack_place (Uncut (Before place)) = None
lack_place (Parts parts) = None

-- text stands before the first heading: its first character that is no white space
abbrev pub front_place : TemplateReading → Option TextPlace
front_place (Uncut (Repeated place)) = None
front_place (Uncut Missing) = None
front_place (Uncut (Before place)) = Some (Byte place)
front_place (Parts parts) = None

-- INFO does not say what the template is
abbrev pub info_place : TemplateReading → Option TextPlace
info_place (Uncut fault) = None
info_place (Parts parts) = without parts.is_tag

-- the parameters have not the form
abbrev pub fields_place : TemplateReading → Option TextPlace
fields_place (Uncut fault) = None
fields_place (Parts parts) = without parts.fields

-- the permissions have not the form
abbrev pub permissions_place : TemplateReading → Option TextPlace
permissions_place (Uncut fault) = None
permissions_place (Parts parts) = without parts.permissions
