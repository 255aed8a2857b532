use Rattle.std.proofs.Common.{sym, ◌∙◌}
use Rattle.trace_forms.proofs.Texts.{texts_in-text, texts_in-other}
use Rattle.trace_forms.proofs.kinds.texts_in.Goals as goal

pub loop-item-preserved : goal.loop-item-preserved
loop-item-preserved c =
    texts_in-text _ _ _ _ _ _ c.in-Some.ensures (sym c.in-Some-into_text.ensures)
    c.in_ok-push-in-Some-into_text.ensures.ok
    ∙ c.loop-item.invariant

pub returns-in-None : goal.returns-in-None
returns-in-None c =
    sym (texts_in-other _ _ _ _ c.in-Some.ensures (sym c.in-None.ensures))
    ∙ c.loop-item.invariant
