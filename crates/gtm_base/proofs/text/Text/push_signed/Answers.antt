use Rattle.std.proofs.Common.{◌≡◌, ap, ◌∙◌}
use Rattle.std.proofs.lemmas.Int.{to_z-of_z}
use Rattle.std.proofs.lemmas.Str.{chars-IsAscii}
use Rattle.std.specs.Str.{chars}
use Rattle.std.specs.Fmt.{signed_decimal}
use Rattle.gtm_base.proofs.text.Text.push_signed.Goals as goal

pub returns-clause-ok : goal.returns-clause-ok
returns-clause-ok c =
    let number = c.args.number in
    let digits : chars c.format.result.now ≡ signed_decimal number
    =
    chars-IsAscii c.format.result.now c.format.ensures.ascii ∙ c.format.ensures.text
    ∙ ap signed_decimal (to_z-of_z _ number c.ranges.number) in
    rw digits at c.push_str.ensures.ok
