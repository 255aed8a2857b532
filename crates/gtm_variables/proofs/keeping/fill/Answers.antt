use Rattle.std.proofs.Common.{◌≡◌, ◌<◌, true, length, sym, ap, ◌∙◌, subst}
use Rattle.std.specs.Prelude.{Contains, IfSome}
use Rattle.variable_kinds.proofs.AskedTexts.{asks_on}
use Rattle.variable_kinds.specs.Moment.{Moment}
use Rattle.gtm_variables.proofs.Chains.{enters_chain, same_chain, snapshot_on, still_missing}
use Rattle.gtm_variables.proofs.keeping.fill.Goals as goal
use Rattle.gtm_variables.specs.Asked.{asked}
use Rattle.gtm_variables.specs.Kept.{is_missing, moment_of}
use Rattle.gtm_variables.specs.Snapshot.{snapshot}

pub turn-requires-clause-waiting : goal.turn-requires-clause-waiting
turn-requires-clause-waiting g c =
    let kept = c.loop-next.invariant in
    λ p has.
    subst (λ bound. p < bound)
    (sym (ap (λ (m : Moment). length m.container.variables) kept.same.moment))
    (kept.waiting p has)

pub loop-next-preserved : goal.loop-next-preserved
loop-next-preserved g c =
    let kept = c.loop-next.invariant in
    let l = c.loop-next in
    let t = c.in_ok-next.ensures in
    let C = g.C.TemplateCaller in
    let bound = ap (λ (m : Moment). length m.container.variables) kept.same.moment in
    record {
      waiting = λ p has. subst (λ n. p < n) bound (t.waiting p has);
      missing =
          subst (λ n.
          IfSome c.in_ok-next.next (λ p. (is_missing c.turn.new.values p ≡ true) × (p < n)))
          bound t.missing;
      pending = λ missing.
          let before : is_missing l.values c.args.at ≡ true =
          still_missing (is_missing l.values c.args.at) (is_missing c.turn.new.values c.args.at)
          (c.turn.ensures.stays c.args.at) missing in
          t.pending c.args.at (rw c.in-Some.is at (kept.pending before)) missing;
      stays = λ p is. c.turn.ensures.stays p (kept.stays p is);
      begun = c.turn.ensures.begun;
      same = same_chain c.args.values.now l.values c.turn.new.values kept.same
          c.turn.ensures.same;
      caller = c.turn.ensures.caller;
      entered = enters_chain C.serves C.knows C.keeps g.met.C.TemplateCaller.keeps_start
          g.met.C.TemplateCaller.keeps_chain C.meaning (moment_of c.args.values.now)
          (moment_of l.values)
          c.args.caller.now l.caller c.turn.new.caller kept.same.moment kept.entered
          c.turn.ensures.entered;
      quiet = t.asks.engines.left.kept ∙ kept.quiet;
    }

pub returns-in_err-next-clause-entered : goal.returns-in_err-next-clause-entered
returns-in_err-next-clause-entered g c =
    let l = c.loop-next in
    let C = g.C.TemplateCaller in
    enters_chain C.serves C.knows C.keeps g.met.C.TemplateCaller.keeps_start
    g.met.C.TemplateCaller.keeps_chain C.meaning (moment_of c.args.values.now) (moment_of l.values)
    c.args.caller.now l.caller c.turn.new.caller l.invariant.same.moment l.invariant.entered
    c.turn.ensures.entered

pub returns-in_err-next-clause-same : goal.returns-in_err-next-clause-same
returns-in_err-next-clause-same g c =
    same_chain c.args.values.now c.loop-next.values c.turn.new.values
    c.loop-next.invariant.same c.turn.ensures.same

pub returns-in_err-next-clause-asks : goal.returns-in_err-next-clause-asks
returns-in_err-next-clause-asks g c =
    let l = c.loop-next in
    let C = g.C.TemplateCaller in
    let s = snapshot (moment_of l.values) (C.meaning l.caller) in
    let first = snapshot (moment_of c.args.values.now) (C.meaning c.args.caller.now) in
    asks_on (asked s) (asked first) c.from_residual.result c.in_err-next.field-0.0 _ _ _
    l.invariant.quiet
    (λ text has. subst (λ x. Contains (asked x) text)
    (snapshot_on (moment_of c.args.values.now) (moment_of l.values)
    (C.meaning c.args.caller.now) (C.meaning l.caller)
    l.invariant.same.moment l.invariant.entered.calls) has)
    c.from_residual.ensures.0 c.from_residual.ensures.1 c.in_err-next.ensures.asks
