use Rattle.std.proofs.Common.{◌≡◌, ◌∙◌, refl, sym, ap, Some, slice_get, subst}
use Rattle.std.specs.Option.{option_copied}
use Rattle.std.specs.Prelude.{All, Contains}
use Rattle.export_model.specs.Sound.{IsConditionIn, IsTriggerEntryIn}
use Rattle.gtm_variables.specs.Asked.{asked}
use Rattle.gtm_variables.specs.Kept.{moment_of}
use Rattle.gtm_variables.specs.Snapshot.{snapshot}
use Rattle.gtm_triggers.proofs.Conditions.{asked_by_trigger, at_place}
use Rattle.gtm_triggers.proofs.Within.{asks_after}
use Rattle.gtm_triggers.proofs.triggers.holds_at.Goals as goal
use Rattle.gtm_triggers.specs.Asking.{asked_with_all}

pub all_hold-requires-clause-conditions : goal.all_hold-requires-clause-conditions
all_hold-requires-clause-conditions g c =
    let ts = c.args.values.now.container.now.triggers in
    let trigger = c.in-Some.trigger.now in
    let there : slice_get ts c.args.at ≡ Some trigger =
    sym c.get.ensures ∙ ap option_copied c.in-Some.is in
    subst (All (IsConditionIn c.args.values.now.container.now)) (sym c.as_slice.ensures)
    (at_place (IsTriggerEntryIn c.args.values.now.container.now) ts c.args.at trigger
    c.requires.in_range.triggers there).conditions

pub returns-in-Some-clause-asks : goal.returns-in-Some-clause-asks
returns-in-Some-clause-asks g c =
    let s = snapshot (moment_of c.args.values.now) (g.C.TemplateCaller.meaning c.args.caller.now) in
    let trigger = c.in-Some.trigger.now in
    let there : slice_get c.args.values.now.container.now.triggers c.args.at ≡ Some trigger =
    sym c.get.ensures ∙ ap option_copied c.in-Some.is in
    asks_after (asked_with_all s c.as_slice.result.now) (asked s) c.all_hold.result _ _ _ refl
    (λ text has. asked_by_trigger s c.args.at trigger there text
    (subst (λ cs. Contains (asked_with_all s cs) text) c.as_slice.ensures has))
    c.all_hold.ensures.asks
