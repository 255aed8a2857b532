use Rattle.std.proofs.Common.{◌∙◌}
use Rattle.std.specs.List as list
use Rattle.std.specs.Prelude.{nat_eq}
use Rattle.std.proofs.lemmas.Str.Pattern.{starts_text}
use Rattle.gtm_triggers.proofs.texts.starts.Goals as goal

pub returns : goal.returns
returns c =
    starts_text c.starts_with.result c.as_str-2.result.now c.as_str.result.now
    c.starts_with.ensures.cases
    ∙ (λ i. list.starts_with nat_eq (c.as_str.ensures.bytes i) (c.as_str-2.ensures.bytes i))
