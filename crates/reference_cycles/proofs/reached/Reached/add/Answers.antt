use Rattle.std.proofs.Common.{◌≡◌, ◌<◌, true, false, length, get_or, set, sym, ◌∙◌, subst, arith}
use Rattle.reference_cycles.specs.Reached.{IsMarked}
use Rattle.reference_cycles.proofs.Marking.{marked_more, grows_none, same_at}
use Rattle.reference_cycles.proofs.reached.Reached.add.Goals as goal
use Rattle.reference_cycles.proofs.reached.Reached.add.Goals.{else-place-len-via-then-place-len+else-not-index}
use Rattle.reference_cycles.proofs.reached.Reached.add.Goals.{else-place-len-via-else-place-len}

pub returns-in_ok-push-clause-marked : goal.returns-in_ok-push-clause-marked
returns-in_ok-push-clause-marked c =
    let marks = c.args.self.now.marks.items in
    let places = c.args.self.now.places.items in
    let within : c.args.place < length marks = omega arith in
    let new : get_or marks c.args.place false ≡ false =
    sym (c.index.ensures ∙ same_at marks c.args.place c.index.result.now false within)
    ∙ c.if-not-index.true in
    subst (IsMarked (set marks c.args.place true)) (sym c.in_ok-push.ensures.items)
    (marked_more marks places c.args.place c.requires within new)

pub returns-else-place-len-clause-grows : goal.returns-else-place-len-clause-grows
returns-else-place-len-clause-grows c =
    let marks = c.args.self.now.marks.items in
    let places = c.args.self.now.places.items in
    grows_none marks places c.args.place c.requires (λ within. elim c.else-place-len.branch [
      | else-place-len-via-then-place-len+else-not-index w ↦ sym
          (w.index.ensures ∙ same_at marks c.args.place w.index.result.now false within)
          ∙ w.if-not-index.false
      | else-place-len-via-else-place-len w ↦ absurd (omega arith)
    ])
