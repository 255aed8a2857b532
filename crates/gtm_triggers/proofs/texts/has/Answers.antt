use Rattle.std.proofs.Common.{◌∙◌}
use Rattle.std.proofs.lemmas.Str.Pattern.{contains_text}
use Rattle.gtm_triggers.proofs.Within.{is_have}
use Rattle.gtm_triggers.proofs.texts.has.Goals as goal
use Rattle.gtm_triggers.specs.Texts.{have}

pub returns : goal.returns
returns c =
    let found =
    contains_text c.contains.result c.as_str-2.result.now c.as_str.result.now
    c.contains.ensures.cases in
    is_have c.contains.result c.as_str.result.now c.as_str-2.result.now found.0 found.1
    ∙ (λ i. have (c.as_str.ensures.bytes i) (c.as_str-2.ensures.bytes i))
