use Rattle.std.proofs.Common.{codes, refl, sym, ◌∙◌}
use Rattle.std.specs.Str.{chars, bytes_eq}
use Rattle.std.proofs.lemmas.Str.{encodes-chars, encodes-IsAscii}
use Rattle.gtm_base.proofs.Characters.{bytes_eq-encoded, IsAscii-from_test}
use Rattle.export_names.proofs.names.is_event.Goals as goal

pub returns : goal.returns
returns c =
    c.eq.ensures
    ∙ (λ i. bytes_eq (sym (encodes-chars c.args.name.now c.utf8.name) i)
    (sym (encodes-IsAscii (codes "_event") (IsAscii-from_test (codes "_event") refl)) i))
    ∙ bytes_eq-encoded (chars c.args.name.now) (codes "_event")
