use Rattle.std.proofs.Common.{◌≡◌, ◌∙◌, sym, ap}
use Rattle.std.proofs.Common.{subst, true, false}
use Rattle.std.specs.Prelude.{Contains}
use Rattle.export_model.specs.Sound.{IsConditionIn}
use Rattle.variable_kinds.proofs.AskedTexts.{asks_on}
use Rattle.variable_kinds.specs.Moment.{Moment}
use Rattle.gtm_variables.proofs.Chains.{enters_chain, snapshot_on}
use Rattle.gtm_variables.specs.Kept.{moment_of}
use Rattle.gtm_variables.specs.Snapshot.{snapshot}
use Rattle.gtm_triggers.proofs.Conditions.{asked_among, at_item, holds_turn}
use Rattle.gtm_triggers.proofs.triggers.all_hold.Goals as goal
use Rattle.gtm_triggers.specs.Asking.{asked_with, asked_with_all}
use Rattle.gtm_triggers.specs.Holding.{holds}

pub holds-requires-clause-condition : goal.holds-requires-clause-condition
holds-requires-clause-condition g c =
    let l = c.loop-condition in
    subst (λ (m : Moment). IsConditionIn m.container c.condition-item.result)
    (sym l.invariant.moment)
    (at_item (IsConditionIn c.args.values.now.container.now) c.args.conditions.now
    l.condition-index c.condition-item.result c.requires.conditions c.loop-condition-test.true
    c.condition-item.is)

pub returns-in_err-holds-clause-asks : goal.returns-in_err-holds-clause-asks
returns-in_err-holds-clause-asks g c =
    let l = c.loop-condition in
    let C = g.C.TemplateCaller in
    let s = snapshot (moment_of l.values) (C.meaning l.caller) in
    let first = snapshot (moment_of c.args.values.now) (C.meaning c.args.caller.now) in
    let condition = c.condition-item.result in
    asks_on (asked_with s condition) (asked_with_all first c.args.conditions.now)
    c.from_residual.result c.in_err-holds.field-0.0 _ _ _ l.invariant.quiet
    (λ text has.
    asked_among first c.args.conditions.now l.condition-index condition
    c.loop-condition-test.true c.condition-item.is text
    (subst (λ x. Contains (asked_with x condition) text)
    (snapshot_on (moment_of c.args.values.now) (moment_of l.values)
    (C.meaning c.args.caller.now) (C.meaning l.caller) l.invariant.moment
    l.invariant.entered.calls) has))
    c.from_residual.ensures.0 c.from_residual.ensures.1 c.in_err-holds.ensures.asks

pub returns-then-not-branch-clause-value : goal.returns-then-not-branch-clause-value
returns-then-not-branch-clause-value g c =
    let l = c.loop-condition in
    let C = g.C.TemplateCaller in
    let first = snapshot (moment_of c.args.values.now) (C.meaning c.args.caller.now) in
    let condition = c.condition-item.result in
    let on =
    snapshot_on (moment_of c.args.values.now) (moment_of l.values)
    (C.meaning c.args.caller.now) (C.meaning l.caller) l.invariant.moment
    l.invariant.entered.calls in
    let value : holds first condition ≡ false =
    sym (c.in_ok-holds.ensures.value ∙ ap (λ x. holds x condition) on)
    ∙ c.if-not-branch.true in
    sym (sym l.invariant.rest
    ∙ holds_turn (holds first) c.args.conditions.now l.condition-index condition false
    c.loop-condition-test.true c.condition-item.is value)

pub loop-condition-preserved : goal.loop-condition-preserved
loop-condition-preserved g c =
    let l = c.loop-condition in
    let C = g.C.TemplateCaller in
    let first = snapshot (moment_of c.args.values.now) (C.meaning c.args.caller.now) in
    let condition = c.condition-item.result in
    let on =
    snapshot_on (moment_of c.args.values.now) (moment_of l.values)
    (C.meaning c.args.caller.now) (C.meaning l.caller) l.invariant.moment
    l.invariant.entered.calls in
    let value : holds first condition ≡ true =
    sym (c.in_ok-holds.ensures.value ∙ ap (λ x. holds x condition) on)
    ∙ c.if-not-branch.false in
    record {
      rest = sym (holds_turn (holds first) c.args.conditions.now l.condition-index condition true
          c.loop-condition-test.true c.condition-item.is value) ∙ l.invariant.rest;
      moment = c.holds.ensures.moment ∙ l.invariant.moment;
      caller = c.holds.ensures.caller;
      entered = enters_chain C.serves C.knows C.keeps g.met.C.TemplateCaller.keeps_start
          g.met.C.TemplateCaller.keeps_chain C.meaning (moment_of c.args.values.now)
          (moment_of l.values) c.args.caller.now l.caller c.holds.new.caller l.invariant.moment
          l.invariant.entered c.holds.ensures.entered;
      quiet = c.in_ok-holds.ensures.asks.engines.left.kept ∙ l.invariant.quiet;
    }
