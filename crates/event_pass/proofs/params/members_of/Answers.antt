use Rattle.std.proofs.Common.{◌≡◌, ◌∙◌, sym, ap, subst}
use Rattle.event_pass.proofs.Parameters.{members_end}
use Rattle.event_pass.proofs.params.members_of.Goals as goal
use Rattle.export_model.specs.Params.{params_of, value_of}
use Rattle.export_model.specs.Sound.{IsParamIn}
use Rattle.gtm_data.specs.Tree.{entries_of, object, tree_of}
use Rattle.gtm_triggers.proofs.Conditions.{at_item}
use Rattle.gtm_variables.proofs.Chains.{enters_chain, snapshot_on}
use Rattle.gtm_variables.specs.Kept.{moment_of}
use Rattle.gtm_variables.specs.Meaning.{value}
use Rattle.gtm_variables.specs.Snapshot.{snapshot}
use Rattle.variable_kinds.proofs.Trees.{more_members, one_more_member}
use Rattle.variable_kinds.specs.declared.members.Choice.TheVariants.{Last}
use Rattle.variable_kinds.specs.Moment.{Moment}
use Rattle.variable_kinds.specs.Resolved.{resolved, resolved_members}

pub resolve-requires-clause-names : goal.resolve-requires-clause-names
resolve-requires-clause-names g c =
    let l = c.loop-param in
    subst (λ (m : Moment). IsParamIn m.container c.param-item.result)
    (sym l.invariant.moment)
    (at_item (IsParamIn c.args.values.now.container.now) c.args.params.now l.param-index
    c.param-item.result c.requires.params c.loop-param-test.true c.param-item.is)

pub loop-param-preserved : goal.loop-param-preserved
loop-param-preserved g c =
    let l = c.loop-param in
    let C = g.C.TemplateCaller in
    let first = snapshot (moment_of c.args.values.now) (C.meaning c.args.caller.now) in
    let v = value first in
    let param = c.param-item.result in
    let on =
    snapshot_on (moment_of c.args.values.now) (moment_of l.values)
    (C.meaning c.args.caller.now) (C.meaning l.caller) l.invariant.moment
    l.invariant.entered.calls in
    let made : tree_of c.in_ok-value.value ≡ resolved v (value_of param.value) =
    c.in_ok-value.ensures.value ∙ ap (λ s. resolved (value s) (value_of param.value)) on in
    record {
      rest = one_more_member Last (λ p. resolved v (value_of p.value))
          (λ ps. resolved_members v Last (params_of ps)) (more_members v Last)
          c.args.params.now l.param-index param (entries_of l.members.pairs)
          (entries_of c.put_last.new.members.pairs) (tree_of c.in_ok-value.value)
          c.loop-param-test.true c.param-item.is c.in_ok-put_last.ensures made
          ∙ l.invariant.rest;
      moment = c.resolve.ensures.moment ∙ l.invariant.moment;
      caller = c.resolve.ensures.caller;
      entered = enters_chain C.serves C.knows C.keeps g.met.C.TemplateCaller.keeps_start
          g.met.C.TemplateCaller.keeps_chain C.meaning (moment_of c.args.values.now)
          (moment_of l.values) c.args.caller.now l.caller c.resolve.new.caller l.invariant.moment
          l.invariant.entered c.resolve.ensures.entered;
      quiet = c.in_ok-value.ensures.asks.engines.left.kept ∙ l.invariant.quiet;
    }

pub returns-clause-value : goal.returns-clause-value
returns-clause-value g c =
    let l = c.loop-param in
    let first =
    snapshot (moment_of c.args.values.now) (g.C.TemplateCaller.meaning c.args.caller.now) in
    ap object
    (sym (members_end (value first) c.args.params.now l.param-index (entries_of l.members.pairs)
    c.loop-param-test.false)
    ∙ l.invariant.rest)
