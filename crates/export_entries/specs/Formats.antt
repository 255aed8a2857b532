-- Formats of variables: the first fault of one, and what it is.
use Rattle.std.specs.Prelude.{ℕ, List, [], ◌∷◌, Option, codes}
use Rattle.serde_json.specs.Data.{Data}
use Rattle.export_fields.specs.Fault.{◌then◌}
use Rattle.export_fields.specs.Fields.{not_object}
use Rattle.export_fields.specs.Objects.{object_fault, object_at}
use Rattle.export_fields.specs.Params.{not_param, as_param}
use Rattle.export_fields.specs.Words.{word_fault, word_at}
use Rattle.folded_words.specs.Words.{among}
use Rattle.export_entries.specs.declared.formats.WrittenCase.{WrittenCase}
use Rattle.export_entries.specs.declared.formats.WrittenCase.TheVariants.{AsItIs, Lower, Upper}
use Rattle.export_entries.specs.declared.formats.WrittenFormat.{WrittenFormat}

-- the change of case that a word stands for
abbrev pub case_named : List ℕ → Option WrittenCase
case_named =
    among ((codes "none", AsItIs) ∷ (codes "lowercase", Lower) ∷ (codes "uppercase", Upper) ∷ [])

-- the fault of a format
unfoldable pub format_fault : Data → Option (List ℕ)
format_fault d =
    not_object d
    then word_fault case_named (codes "caseConversionType") d
    then object_fault not_param (codes "convertNullToValue") d
    then object_fault not_param (codes "convertUndefinedToValue") d
    then object_fault not_param (codes "convertTrueToValue") d
    then object_fault not_param (codes "convertFalseToValue") d

-- the format that a value stands for
unfoldable pub written_format : Data → WrittenFormat
written_format d = record {
  case = word_at case_named AsItIs (codes "caseConversionType") d;
  null = object_at as_param (codes "convertNullToValue") d;
  undefined = object_at as_param (codes "convertUndefinedToValue") d;
  yes = object_at as_param (codes "convertTrueToValue") d;
  no = object_at as_param (codes "convertFalseToValue") d;
}
