use Rattle.std.proofs.Common.{◌∙◌, sym}
use Rattle.gtm_triggers.proofs.Places.{next_place}
use Rattle.gtm_triggers.specs.Indexed.{put_if}
use Rattle.fired_tags.proofs.firing.fired.Goals as goal
use Rattle.fired_tags.specs.Fired.{is_fired}

pub loop-at-preserved : goal.loop-at-preserved
loop-at-preserved c =
    c.in_ok-push_if.ensures
    ∙ (λ i. put_if (c.is_fired-is.ensures i) c.loop-at.at (c.loop-at.invariant i))
    ∙ sym (next_place (is_fired c.args.holding.now c.args.event.now)
    c.as_slice-tag-items.result.now c.loop-at.at c.tag-item.result c.loop-at-test.true
    c.tag-item.is)
