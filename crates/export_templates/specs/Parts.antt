-- What stands in the sections of a template's text.
use Rattle.std.specs.Prelude.{ℕ, List, Bool, Option, Some, None, option_and_then}
use Rattle.std.specs.Prelude.{if◌then◌else◌, slice_range}
use Rattle.std.specs.Option.{option_map_or}
use Rattle.gtm_data.specs.Json.{json_of}
use Rattle.gtm_data.specs.Plain.{plain}
use Rattle.gtm_data.specs.Tree.{Tree, list, end}
use Rattle.export_model.specs.declared.templates.FieldName.{FieldName}
use Rattle.perm_reader.specs.Policies.{are_permissions, policy_read}
use Rattle.template_fields.specs.Fields.{fields_in}
use Rattle.template_fields.specs.Forms.{is_tag}
use Rattle.template_sections.specs.declared.cutting.Sections.{Sections}
use Rattle.template_sections.specs.declared.cutting.Span.{Span}
use Rattle.export_templates.specs.declared.parts.Permissions.{Permissions}
use Rattle.export_templates.specs.declared.parts.TemplateParts.{TemplateParts}

-- the body of a section
abbrev pub body_of : List ℕ → Span → List ℕ
body_of text span = slice_range text span.from span.to

-- the data of a JSON text of whole data
abbrev pub data_in : List ℕ → Option Tree
data_in bytes = option_and_then plain (json_of bytes)

-- the data of a section; an absent one is an empty list
abbrev pub section_list : List ℕ → Option Span → Option Tree
section_list text span = option_map_or (λ s. data_in (body_of text s)) span (Some (list end))

-- whether INFO says that its template is one of tags, or of variables
abbrev pub type_in : List ℕ → Option Bool
type_in info = option_and_then is_tag (data_in info)

-- the fields of the parameters, where these have the form
abbrev pub fields_found : List ℕ → Option Span → Option (List FieldName)
fields_found text span = option_and_then fields_in (section_list text span)

-- what a list of permissions allows, where it has the form of one
abbrev pub permissions_in : Tree → Option Permissions
permissions_in t =
    if are_permissions t
    then Some (record {
      policy = record { grants = (policy_read t).grants };
      warnings = (policy_read t).warnings;
    })
    else None

-- what the permissions allow, where these have the form
abbrev pub permissions_found : List ℕ → Option Span → Option Permissions
permissions_found text span = option_and_then permissions_in (section_list text span)

-- what the sections of a text are read as, each by itself
unfoldable pub parts_of : List ℕ → Sections → TemplateParts
parts_of text sections = record {
  is_tag = type_in (body_of text sections.info);
  fields = fields_found text sections.parameters;
  permissions = permissions_found text sections.permissions;
}
