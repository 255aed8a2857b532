use Rattle.std.proofs.Common.{◌<◌, refl, Some, None, sym, ap, ◌∙◌, subst, arith, set, get_or}
use Rattle.std.proofs.Common.{length}
use Rattle.std.specs.Prelude.{Contains}
use Rattle.std.proofs.lemmas.List.{get_or-set_same, get_or-set_other}
use Rattle.std.proofs.lemmas.Option.{slice_get_read}
use Rattle.variable_kinds.proofs.AskedTexts.{asks_on}
use Rattle.gtm_variables.proofs.KeptValues.{fields_ready, value_ready, added_after, may_added}
use Rattle.gtm_variables.proofs.KeptValues.{kept_on, snapshot_same, called_now, put_kept}
use Rattle.gtm_variables.proofs.KeptValues.{asked_by_variable}
use Rattle.gtm_variables.proofs.keeping.keep.Goals as goal
use Rattle.gtm_variables.specs.Asked.{asked}
use Rattle.gtm_variables.specs.Kept.{AreKept, kept_for, moment_of, value_by_kept}
use Rattle.gtm_variables.specs.Meaning.{fields_of, kind_texts}
use Rattle.gtm_variables.specs.Snapshot.{snapshot}

pub returns-in_err-kept-clause-entered : goal.returns-in_err-kept-clause-entered
returns-in_err-kept-clause-entered g c =
    let values = c.args.values.now in
    let before = g.C.TemplateCaller.meaning c.args.caller.now in
    let variable = c.index-as_slice-at.result in
    let entry =
    slice_get_read values.container.now.variables (length values.container.now.variables)
    c.args.at variable refl c.requires.within
    (c.index-as_slice-at.is ∙ ap (λ vs. get_or vs c.args.at variable) c.as_slice.ensures) in
    record {
      calls = may_added (snapshot (moment_of values) before) c.args.at variable entry
          (fields_of (value_by_kept values) variable)
          (fields_ready values before c.requires.caller.kept c.args.at variable entry
          c.requires.ready)
          before (g.C.TemplateCaller.meaning c.computed.new.caller)
          c.in_err-kept.ensures.may_call;
      holds = c.computed.ensures.holds;
    }

pub returns-in_err-kept-clause-caller : goal.returns-in_err-kept-clause-caller
returns-in_err-kept-clause-caller g c =
    let values = c.args.values.now in
    let before = g.C.TemplateCaller.meaning c.args.caller.now in
    let now = g.C.TemplateCaller.meaning c.computed.new.caller in
    let adds = (returns-in_err-kept-clause-entered g c).calls in
    let s = snapshot (moment_of values) before in
    let holds = c.computed.ensures.holds in
    record {
      kept = subst (λ s. AreKept s now.calls (kept_for values))
          (sym (snapshot_same s (moment_of values) before now adds))
          (kept_on s before now (kept_for values) adds c.requires.caller.kept);
      world = holds.serves_on (moment_of values).world c.requires.caller.world;
      known = λ at template. holds.knows_on at (c.requires.caller.known at template);
    }

pub returns-in_err-kept-clause-asks : goal.returns-in_err-kept-clause-asks
returns-in_err-kept-clause-asks g c =
    let values = c.args.values.now in
    let before = g.C.TemplateCaller.meaning c.args.caller.now in
    let s = snapshot (moment_of values) before in
    let variable = c.index-as_slice-at.result in
    let entry =
    slice_get_read values.container.now.variables (length values.container.now.variables)
    c.args.at variable refl c.requires.within
    (c.index-as_slice-at.is ∙ ap (λ vs. get_or vs c.args.at variable) c.as_slice.ensures) in
    let fields =
    fields_ready values before c.requires.caller.kept c.args.at variable entry
    c.requires.ready in
    asks_on
    (kind_texts s c.args.at variable.kind (fields_of (value_by_kept values) variable)) (asked s)
    c.from_residual.result c.in_err-kept.field-0.0 _ _ _ refl
    (λ text has.
    asked_by_variable s c.args.at variable entry text
    (subst (λ f. Contains (kind_texts s c.args.at variable.kind f) text) fields has))
    c.from_residual.ensures.0 c.from_residual.ensures.1 c.in_err-kept.ensures.asks

pub returns-clause-entered : goal.returns-clause-entered
returns-clause-entered g c =
    let values = c.args.values.now in
    let before = g.C.TemplateCaller.meaning c.args.caller.now in
    let variable = c.index-as_slice-at.result in
    let entry =
    slice_get_read values.container.now.variables (length values.container.now.variables)
    c.args.at variable refl c.requires.within
    (c.index-as_slice-at.is ∙ ap (λ vs. get_or vs c.args.at variable) c.as_slice.ensures) in
    record {
      calls = added_after (snapshot (moment_of values) before) c.args.at variable entry
          (fields_of (value_by_kept values) variable)
          (fields_ready values before c.requires.caller.kept c.args.at variable entry
          c.requires.ready)
          before (g.C.TemplateCaller.meaning c.computed.new.caller)
          c.in_ok-kept.ensures.called;
      holds = c.computed.ensures.holds;
    }

pub returns-clause-caller : goal.returns-clause-caller
returns-clause-caller g c =
    let values = c.args.values.now in
    let before = g.C.TemplateCaller.meaning c.args.caller.now in
    let now = g.C.TemplateCaller.meaning c.computed.new.caller in
    let s = snapshot (moment_of values) before in
    let at = c.args.at in
    let variable = c.index-as_slice-at.result in
    let entry =
    slice_get_read values.container.now.variables (length values.container.now.variables) at
    variable refl c.requires.within
    (c.index-as_slice-at.is ∙ ap (λ vs. get_or vs at variable) c.as_slice.ensures) in
    let adds = (returns-clause-entered g c).calls in
    let holds = c.computed.ensures.holds in
    let fits : at < length values.kept.items =
    omega (arith, c.requires.begun, c.requires.within) in
    record {
      kept =
          subst (λ moment.
          AreKept moment now.calls
          (λ k. get_or (set values.kept.items at (Some c.in_ok-kept.kept)) k None))
          (sym (snapshot_same s (moment_of values) before now adds))
          (put_kept s now.calls (kept_for values)
          (λ k. get_or (set values.kept.items at (Some c.in_ok-kept.kept)) k None) at
          c.in_ok-kept.kept (kept_on s before now (kept_for values) adds c.requires.caller.kept)
          (get_or-set_same values.kept.items at (Some c.in_ok-kept.kept) None fits)
          (λ other apart.
          get_or-set_other values.kept.items at other (Some c.in_ok-kept.kept) None apart)
          (c.in_ok-kept.ensures.value
          ∙ value_ready values before c.requires.caller.kept values.sound.acyclic at variable
          entry c.requires.ready)
          (called_now values.container.now at variable entry
          (fields_of (value_by_kept values) variable) before now
          c.in_ok-kept.ensures.called));
      world = holds.serves_on (moment_of values).world c.requires.caller.world;
      known = λ at template. holds.knows_on at (c.requires.caller.known at template);
    }
