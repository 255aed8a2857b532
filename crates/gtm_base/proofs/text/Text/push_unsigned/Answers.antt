use Rattle.std.proofs.Common.{◌≡◌, ◌∙◌}
use Rattle.std.proofs.lemmas.Str.{chars-IsAscii}
use Rattle.std.specs.Str.{chars}
use Rattle.std.specs.Prelude.{decimal}
use Rattle.gtm_base.proofs.text.Text.push_unsigned.Goals as goal

pub returns-clause-ok : goal.returns-clause-ok
returns-clause-ok c =
    let digits : chars c.format.result.now ≡ decimal c.args.number =
    chars-IsAscii c.format.result.now c.format.ensures.ascii ∙ c.format.ensures.text in
    rw digits at c.push_str.ensures.ok
