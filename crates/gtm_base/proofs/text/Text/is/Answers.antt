use Rattle.std.proofs.Common.{sym, ◌∙◌}
use Rattle.std.specs.Str.{chars, bytes_eq}
use Rattle.std.proofs.lemmas.Str.{encodes-chars}
use Rattle.gtm_base.proofs.Characters.{bytes_eq-encoded}
use Rattle.gtm_base.proofs.text.Text.is.Goals as goal

pub returns : goal.returns
returns c =
    c.eq.ensures
    ∙ (λ i. bytes_eq (c.as_str.ensures.bytes i)
    (sym (encodes-chars c.args.other.now c.utf8.other) i))
    ∙ bytes_eq-encoded c.args.self.now (chars c.args.other.now)
