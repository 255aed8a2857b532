-- What a line says, by its data.
use Rattle.std.proofs.Common.{◌≡◌, Option, Some, None, option_map, ap}
use Rattle.serde_json.specs.Data as json
use Rattle.gtm_data.specs.Plain.{plain}
use Rattle.gtm_data.specs.Tree.{Tree}
use Rattle.trace_forms.specs.Forms.{form_of}
use Rattle.trace_forms.specs.Lines.{reading_of_data, reading_of_tree}

-- a line that has data says what the data's form says
pub said : (tree : Option json.Data) (t : Tree) → Some (Some t) ≡ option_map plain tree
    → form_of t ≡ reading_of_tree tree
said None t e = absurd (cc)
said (Some d) t e = let is : Some t ≡ plain d = cc in ap (reading_of_data d) is
