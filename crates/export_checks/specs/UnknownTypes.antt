-- Types of custom templates that no template of their sort has.
use Rattle.std.specs.Prelude.{ℕ, List, [], Bool, true, false, Option, Some, None, ◌&&◌, not, take}
use Rattle.std.specs.Prelude.{if◌then◌else◌, codes, option_and_then, slice_get}
use Rattle.std.specs.Str.{bytes_eq}
use Rattle.export_fields.specs.Fault.{in_key, ◌then◌}
use Rattle.export_entries.specs.declared.entries.WrittenEntries.{WrittenEntries}
use Rattle.export_names.specs.Types.{TypeLists, types_of, template_at}
use Rattle.export_templates.specs.Readings.{type_of}
use Rattle.export_templates.specs.declared.readings.TemplateReading.{TemplateReading}
use Rattle.export_checks.specs.FirstFault.{list_fault}
use Rattle.export_checks.specs.declared.templates.TemplateUse.{TemplateUse}
use Rattle.export_checks.specs.declared.templates.TemplateUse.TheVariants.{Tag, Variable}

-- a type begins with `cvt_`, as those of custom templates do
abbrev pub is_custom : List ℕ → Bool
is_custom kind = bytes_eq (take 4 kind) (codes "cvt_")

-- a template that is one of tags, or else of variables, is one for this use
abbrev pub fits : TemplateUse → Bool → Bool
fits Tag is_tag = is_tag
fits Variable is_tag = not is_tag

-- a template's text does not say that it is one for the other use
abbrev pub may_fit : TemplateUse → Option Bool → Bool
may_fit used None = true
may_fit used (Some is_tag) = fits used is_tag

-- a template is there, and its text does not say that it is one for the other use
abbrev pub is_answered : List TemplateReading → TemplateUse → Option ℕ → Bool
is_answered readings used None = false
is_answered readings used (Some at) =
    may_fit used (option_and_then type_of (slice_get readings at))

-- the fault of a type, where it is that of a custom template and no template answers it
abbrev pub type_fault : TypeLists → List TemplateReading → TemplateUse → List ℕ → Option (List ℕ)
type_fault types readings used kind =
    if is_custom kind && not (is_answered readings used (template_at types kind))
    then Some (in_key (codes "type") []) else None

-- the path of the first type of a custom template that no template answers: those of tags, then
-- those of variables
abbrev pub unknown_template : List TemplateReading → WrittenEntries → Option (List ℕ)
unknown_template readings written =
    let types = types_of written.templates in
    list_fault (codes "tag") (λ tag. type_fault types readings Tag tag.kind) written.tags
    then list_fault (codes "variable")
    (λ variable. type_fault types readings Variable variable.kind) written.variables
