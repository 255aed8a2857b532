use Rattle.std.proofs.Common.{◌∙◌, ap}
use Rattle.std.specs.Prelude.{◌||◌, nat_eq}
use Rattle.fired_tags.proofs.Marking.{set_mark}
use Rattle.fired_tags.proofs.marks.mark.Goals as goal

pub returns : goal.returns
returns c =
    λ other.
    set_mark c.reach.new.marks.items c.args.at other c.in_ok-reach.ensures.room
    ∙ ap (λ b. nat_eq other c.args.at || b) (c.in_ok-reach.ensures.same other)
