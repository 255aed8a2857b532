use Rattle.std.proofs.Common.{◌≡◌, ℕ, List, refl}
use Rattle.export_model.specs.declared.variables.Format.{Format}
use Rattle.gtm_data.specs.Tree.{Tree, undefined, null, bool, whole, text, list, object, foreign}
use Rattle.gtm_data.specs.Tree.{callback}
use Rattle.variable_kinds.specs.Formats.{cased}
use Rattle.variable_kinds.proofs.laws.only_texts_change_their_case.Goals as goal

stays : (format : Format) (value : Tree) → ((characters : List ℕ) → value ≡ text characters → ⊥)
    → cased format value ≡ value
stays format undefined other = refl
stays format null other = refl
stays format (bool b) other = refl
stays format (whole number) other = refl
stays format (text characters) other = absurd (other characters refl)
stays format (list ts) other = refl
stays format (object es) other = refl
stays format foreign other = refl
stays format (callback number) other = refl

pub returns : goal.returns
returns c format value other = stays format value other
