use Rattle.std.proofs.Common.{◌≡◌, ◌<◌, false, length, get_or, sym, ap, ◌∙◌, subst}
use Rattle.variable_kinds.proofs.AskedTexts.{asks_on}
use Rattle.variable_kinds.specs.Moment.{Moment}
use Rattle.gtm_variables.proofs.Chains.{enters_chain, same_chain, snapshot_on}
use Rattle.gtm_variables.proofs.Founds.{filled_more}
use Rattle.gtm_variables.proofs.Pushing.{here}
use Rattle.gtm_variables.proofs.filling.fill_all.Goals as goal
use Rattle.gtm_variables.specs.Asked.{asked}
use Rattle.gtm_variables.specs.Kept.{is_missing, moment_of}
use Rattle.gtm_variables.specs.Snapshot.{snapshot}
use Rattle.std.specs.Prelude.{Contains}

pub fill-requires-clause-within : goal.fill-requires-clause-within
fill-requires-clause-within g c =
    let l = c.loop-place in
    let p = get_or c.args.places.now l.place-index 0 in
    subst (λ n. p < n)
    (sym (ap (λ (m : Moment). length m.container.variables) l.invariant.same.moment))
    (c.requires.within p (here c.args.places.now l.place-index c.loop-place-test.true))

pub loop-place-preserved : goal.loop-place-preserved
loop-place-preserved g c =
    let l = c.loop-place in
    let kept = l.invariant in
    let t = c.fill.ensures in
    let C = g.C.TemplateCaller in
    record {
      there = filled_more c.args.places.now l.place-index (λ p. is_missing l.values p ≡ false)
          (λ p. is_missing c.fill.new.values p ≡ false) c.loop-place-test.true kept.there t.stays
          c.in_ok-fill.ensures.there;
      begun = t.begun;
      same = same_chain c.args.values.now l.values c.fill.new.values kept.same t.same;
      caller = t.caller;
      entered = enters_chain C.serves C.knows C.keeps g.met.C.TemplateCaller.keeps_start
          g.met.C.TemplateCaller.keeps_chain C.meaning (moment_of c.args.values.now)
          (moment_of l.values)
          c.args.caller.now l.caller c.fill.new.caller kept.same.moment kept.entered t.entered;
      quiet = c.in_ok-fill.ensures.asks.engines.left.kept ∙ kept.quiet;
    }

pub returns-in_err-fill-clause-entered : goal.returns-in_err-fill-clause-entered
returns-in_err-fill-clause-entered g c =
    let l = c.loop-place in
    let C = g.C.TemplateCaller in
    enters_chain C.serves C.knows C.keeps g.met.C.TemplateCaller.keeps_start
    g.met.C.TemplateCaller.keeps_chain C.meaning (moment_of c.args.values.now) (moment_of l.values)
    c.args.caller.now l.caller c.fill.new.caller l.invariant.same.moment l.invariant.entered
    c.fill.ensures.entered

pub returns-in_err-fill-clause-same : goal.returns-in_err-fill-clause-same
returns-in_err-fill-clause-same g c =
    same_chain c.args.values.now c.loop-place.values c.fill.new.values
    c.loop-place.invariant.same c.fill.ensures.same

pub returns-in_err-fill-clause-asks : goal.returns-in_err-fill-clause-asks
returns-in_err-fill-clause-asks g c =
    let l = c.loop-place in
    let C = g.C.TemplateCaller in
    let s = snapshot (moment_of l.values) (C.meaning l.caller) in
    let first = snapshot (moment_of c.args.values.now) (C.meaning c.args.caller.now) in
    asks_on (asked s) (asked first) c.from_residual.result c.in_err-fill.field-0.0 _ _ _
    l.invariant.quiet
    (λ text has. subst (λ x. Contains (asked x) text)
    (snapshot_on (moment_of c.args.values.now) (moment_of l.values)
    (C.meaning c.args.caller.now) (C.meaning l.caller)
    l.invariant.same.moment l.invariant.entered.calls) has)
    c.from_residual.ensures.0 c.from_residual.ensures.1 c.in_err-fill.ensures.asks
