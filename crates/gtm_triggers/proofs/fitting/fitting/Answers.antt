use Rattle.std.proofs.Common.{◌≡◌, ◌∙◌, [], ◌∷◌, sym, ap, Result, Ok, Err}
use Rattle.std.specs.Prelude.{IfOk}
use Rattle.gtm_triggers.proofs.Groups.{fitting_places}
use Rattle.gtm_triggers.proofs.fitting.fitting.Goals as goal
use Rattle.gtm_triggers.specs.Indexed.{customs, group_places, those_for}
use Rattle.gtm_triggers.specs.Merged.{merged}

if_ok : {A E : Type 0} (P Q : A → Type 0) (result : Result A E) → ((value : A) → P value → Q value)
    → IfOk result P → IfOk result Q
if_ok P Q (Ok value) from known = from value known
if_ok P Q (Err error) from known = tt

pub returns-in-Some : goal.returns-in-Some
returns-in-Some c =
    let ts = c.args.container.now.triggers in
    let event = c.args.event.now in
    let own : c.kept_for-own.result.now ≡ those_for event ts =
    c.kept_for-own.ensures ∙ c.requires.events event in
    let all : c.as_slice.result.now ≡ customs ts = c.as_slice.ensures ∙ c.requires.customs in
    let both : c.as_slice-in-Some.result.now ≡ merged (customs ts) (those_for event ts) =
    c.as_slice-in-Some.ensures ∙ c.in_ok-places.ensures ∙ (λ i. merged (all i) (own i)) in
    let alone : c.in-Some.at ∷ [] ≡ group_places c.args.group ts = sym c.in-Some.ensures in
    if_ok _ _ c.merged-in-Some.result
    (λ made is.
    is ∙ (λ i. merged (both i) (alone i)) ∙ fitting_places event c.args.group ts)
    c.merged-in-Some.ensures

pub returns-in-None : goal.returns-in-None
returns-in-None c =
    let ts = c.args.container.now.triggers in
    let event = c.args.event.now in
    let own : c.kept_for-own.result.now ≡ those_for event ts =
    c.kept_for-own.ensures ∙ c.requires.events event in
    let all : c.as_slice.result.now ≡ customs ts = c.as_slice.ensures ∙ c.requires.customs in
    c.in_ok-places.ensures
    ∙ (λ i. merged (merged (all i) (own i)) [])
    ∙ ap (merged (merged (customs ts) (those_for event ts))) (sym c.in-None.ensures)
    ∙ fitting_places event c.args.group ts
