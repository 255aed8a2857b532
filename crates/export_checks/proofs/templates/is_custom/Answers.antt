use Rattle.std.proofs.Common.{codes, eqb, refl, ap, ◌∙◌}
use Rattle.std.specs.List.{starts_with}
use Rattle.std.proofs.lemmas.Str.Pattern.{starts_text}
use Rattle.export_checks.proofs.Words.{begins_alike}
use Rattle.export_checks.proofs.templates.is_custom.Goals as goal

pub returns : goal.returns
returns c =
    starts_text c.starts_with.result (codes "cvt_") c.as_str.result.now c.starts_with.ensures.cases
    ∙ ap (λ bytes. starts_with eqb bytes (codes "cvt_")) c.as_str.ensures.bytes
    ∙ begins_alike (codes "cvt_") c.args.kind.now refl
