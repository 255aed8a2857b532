-- Whole numbers, which may stand as texts.
use Rattle.std.specs.Prelude.{ℕ, ℤ, List, Option, None, option_and_then}
use Rattle.std.specs.Str.{chars}
use Rattle.serde_json.specs.Data.{Data, null, boolean, number, string, array, object}
use Rattle.serde_json.specs.Find.{get}
use Rattle.gtm_data.specs.Plain.{whole_of}
use Rattle.gtm_data.specs.WholeText.{whole_text}
use Rattle.export_fields.specs.Fault.{fault_without}
use Rattle.export_fields.specs.Fields.{optional}

-- the whole number that a value is, as a number or as a text
abbrev pub as_whole : Data → Option ℤ
as_whole null = None
as_whole (boolean b) = None
as_whole (number n) = whole_of n
as_whole (string s) = whole_text (chars s)
as_whole (array ds) = None
as_whole (object ms) = None

-- the fault of a whole number at a key
unfoldable pub whole_fault : List ℕ → Data → Option (List ℕ)
whole_fault = optional (λ d. fault_without (as_whole d))

-- the whole number at a key
unfoldable pub whole_at : List ℕ → Data → Option ℤ
whole_at key d = option_and_then as_whole (get key d)
