use Rattle.std.proofs.Common.{◌≡◌, drop}
use Rattle.std.specs.List.{list_any}
use Rattle.fired_tags.proofs.firing.is_fired.Given as goal
use Rattle.fired_tags.specs.Fired.{holds_by}

abbrev pub invariant-loop-trigger : goal.invariant-loop-trigger
invariant-loop-trigger l =
    list_any (holds_by l.holding l.event) (drop l.trigger-index l.trigger-items)
    ≡ list_any (holds_by l.holding l.event) l.tag.firing
