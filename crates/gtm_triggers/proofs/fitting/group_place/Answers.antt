use Rattle.std.proofs.Common.{◌≡◌, ◌∙◌, sym, ap, refl, arith, false, slice_get, Some, None}
use Rattle.std.specs.Option.{option_copied}
use Rattle.export_model.specs.declared.triggers.TriggerKind.{TriggerKind}
use Rattle.export_model.specs.declared.triggers.TriggerKind.TheVariants as kind
use Rattle.gtm_triggers.proofs.Groups.{at_place, found_place, is_group, no_group_places}
use Rattle.gtm_triggers.proofs.fitting.group_place.Goals as goal
use Rattle.gtm_triggers.specs.Indexed.{group_places}

not_group : (k : TriggerKind) → (k ≡ kind.Group → ⊥) → is_group k ≡ false
not_group (kind.Event name) other = refl
not_group kind.Custom other = refl
not_group kind.Group other = absurd (other refl)
not_group (kind.Never word) other = refl

pub returns-in_err-at : goal.returns-in_err-at
returns-in_err-at c =
    let none : c.args.group ≡ None = c.in_err-at.was in
    rw c.from_residual.ensures
    (ap (λ g. group_places g c.args.container.now.triggers) none
    ∙ no_group_places 0 c.args.container.now.triggers)

pub returns-in_err-trigger : goal.returns-in_err-trigger
returns-in_err-trigger c =
    let own : c.args.group ≡ Some c.in_ok-at.at = c.in_ok-at.was in
    let ts = c.args.container.now.triggers in
    rw c.from_residual-in_err-trigger.ensures
    (ap (λ g. group_places g ts) own
    ∙ at_place c.in_ok-at.at c.in_ok-at.at 0 ts (omega arith)
    ∙ ap (found_place c.in_ok-at.at) (sym c.in_err-trigger.ensures))

pub returns-in-Group : goal.returns-in-Group
returns-in-Group c =
    let own : c.args.group ≡ Some c.in_ok-at.at = c.in_ok-at.was in
    let ts = c.args.container.now.triggers in
    let there : slice_get ts c.in_ok-at.at ≡ Some c.in_ok-trigger.trigger.now =
    sym c.get.ensures ∙ ap option_copied c.in_ok-trigger.was in
    ap (λ g. group_places g ts) own
    ∙ at_place c.in_ok-at.at c.in_ok-at.at 0 ts (omega arith)
    ∙ ap (found_place c.in_ok-at.at) there
    ∙ rw c.in-Group.is refl

pub returns-in_default : goal.returns-in_default
returns-in_default c =
    let own : c.args.group ≡ Some c.in_ok-at.at = c.in_ok-at.was in
    let ts = c.args.container.now.triggers in
    let there : slice_get ts c.in_ok-at.at ≡ Some c.in_ok-trigger.trigger.now =
    sym c.get.ensures ∙ ap option_copied c.in_ok-trigger.was in
    let other : is_group c.in_ok-trigger.trigger.now.kind ≡ false =
    not_group c.in_ok-trigger.trigger.now.kind c.in_default.not-Group in
    ap (λ g. group_places g ts) own
    ∙ at_place c.in_ok-at.at c.in_ok-at.at 0 ts (omega arith)
    ∙ ap (found_place c.in_ok-at.at) there
    ∙ rw other refl
