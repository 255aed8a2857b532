use Rattle.std.proofs.Common.{lit<, ◌∙◌}
use Rattle.std.proofs.lemmas.Iterator.Consumers.{YieldsList-end}
use Rattle.std.proofs.lemmas.Iterator.Splits.{YieldsList-from_str_split}
use Rattle.data_layer.proofs.Parts.{all_texts}
use Rattle.data_layer.proofs.nesting.parts.Goals as goal

pub returns : goal.returns
returns c =
    let l = c.loop-part in
    let all =
    YieldsList-end (YieldsList-from_str_split 46 c.args.text.now (lit< tt) (cc) (cc) (cc))
    l.yielded _ l.yielded_by _ _ c.in-None.is c.next.ensures.steps in
    l.invariant ∙ all_texts l.yielded c.args.text.now c.utf8.text all.0
