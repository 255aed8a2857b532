use Rattle.std.proofs.Common.{◌+◌, subst, sym, ◌∙◌}
use Rattle.gtm_variables.proofs.Pushing.{IsGrown, grown_first, grown_missing, grown_kept}
use Rattle.gtm_variables.proofs.Pushing.{grown_last}
use Rattle.gtm_variables.proofs.stacking.push_missing_of.Goals as goal
use Rattle.gtm_variables.proofs.stacking.push_missing_of.Goals.{then-is_missing+in_ok-push}
use Rattle.gtm_variables.proofs.stacking.push_missing_of.Goals.{else-is_missing}
use Rattle.gtm_variables.specs.Kept.{is_missing}

pub loop-place-init : goal.loop-place-init
loop-place-init c =
    grown_first (is_missing c.args.values.now) c.args.places.now c.args.waiting.now.items

pub loop-place-preserved : goal.loop-place-preserved
loop-place-preserved c =
    let missing = is_missing c.args.values.now in
    let places = c.args.places.now in
    let start = c.args.waiting.now.items in
    let l = c.loop-place in
    elim c.if-is_missing.branch [
      | then-is_missing+in_ok-push w ↦
          subst (λ v.
          IsGrown missing places (l.place-index + 1) start v.items c.if-is_missing.next)
          (sym w.waiting-is)
          (subst (IsGrown missing places (l.place-index + 1) start w.push.new.self.items)
          (sym w.next-is)
          (grown_missing missing places l.place-index c.loop-place-test.true start
          l.waiting.items w.push.new.self.items l.next l.invariant
          (sym c.is_missing.ensures ∙ w.if-is_missing.true) w.in_ok-push.ensures.items))
      | else-is_missing w ↦
          subst (λ v.
          IsGrown missing places (l.place-index + 1) start v.items c.if-is_missing.next)
          (sym w.waiting-is)
          (subst (IsGrown missing places (l.place-index + 1) start l.waiting.items)
          (sym w.next-is)
          (grown_kept missing places l.place-index c.loop-place-test.true start l.waiting.items
          l.next l.invariant (sym c.is_missing.ensures ∙ w.if-is_missing.false)))
    ]

pub returns-clause-next : goal.returns-clause-next
returns-clause-next c =
    grown_last (is_missing c.args.values.now) c.args.places.now c.loop-place.place-index
    c.args.waiting.now.items c.loop-place.waiting.items c.loop-place.next
    c.loop-place-test.false c.loop-place.invariant
