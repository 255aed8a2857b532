use Rattle.fired_tags.proofs.Marking.{next_mark}
use Rattle.fired_tags.proofs.marks.marks_of.Goals as goal

pub loop-at-preserved : goal.loop-at-preserved
loop-at-preserved c =
    next_mark c.args.places.now c.loop-at.at-index c.loop-at.marks.items c.mark.new.marks.items
    c.loop-at-test.true c.loop-at.invariant c.in_ok-mark.ensures
