use Rattle.std.proofs.Common.{◌∙◌}
use Rattle.std.specs.List as list
use Rattle.std.specs.Prelude.{nat_eq}
use Rattle.std.proofs.lemmas.Str.Pattern.{ends_text}
use Rattle.gtm_triggers.proofs.texts.ends.Goals as goal

pub returns : goal.returns
returns c =
    ends_text c.ends_with.result c.as_str-2.result.now c.as_str.result.now
    c.ends_with.ensures.cases
    ∙ (λ i. list.ends_with nat_eq (c.as_str.ensures.bytes i) (c.as_str-2.ensures.bytes i))
