use Rattle.std.proofs.Common.{◌∙◌, ap, sym}
use Rattle.export_model.specs.declared.triggers.Trigger.{Trigger}
use Rattle.gtm_triggers.proofs.Places.{next_place}
use Rattle.gtm_triggers.proofs.index.Index.new.Goals as goal
use Rattle.gtm_triggers.specs.Indexed.{is_custom, is_for, put_if}

pub loop-at-preserved : goal.loop-at-preserved
loop-at-preserved c =
    let ts = c.as_slice-trigger-items.result.now in
    let at = c.loop-at.at in
    let trigger = c.trigger-item.result in
    record {
      customs = c.in_ok-add.ensures.customs
          ∙ ap (put_if (is_custom trigger.kind) at) c.loop-at.invariant.customs
          ∙ sym (next_place (λ (t : Trigger). is_custom t.kind) ts at trigger
          c.loop-at-test.true c.trigger-item.is);
      events = λ event.
          c.in_ok-add.ensures.events event
          ∙ ap (put_if (is_for event trigger.kind) at) (c.loop-at.invariant.events event)
          ∙ sym (next_place (λ (t : Trigger). is_for event t.kind) ts at trigger
          c.loop-at-test.true c.trigger-item.is);
    }
