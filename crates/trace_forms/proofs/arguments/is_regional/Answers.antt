use Rattle.std.proofs.Common.{◌≡◌, ◌<◌, List, [], ◌∷◌, length, false, refl, arith}
use Rattle.gtm_data.specs.Tree.{trees_of}
use Rattle.gtm_data.specs.declared.data.Data.{Data}
use Rattle.trace_forms.specs.Forms.{is_regional}
use Rattle.trace_forms.proofs.arguments.is_regional.Goals as goal

short : (items : List Data) → length items < 3 → false ≡ is_regional (trees_of items)
short [] few = refl
short (first ∷ []) few = refl
short (first ∷ second ∷ []) few = refl
short (first ∷ second ∷ third ∷ items) few = absurd (omega arith)

pub returns-in_default : goal.returns-in_default
returns-in_default c = short c.args.items.now (rw (← c.as_slice.ensures) c.in_default.len_below)
