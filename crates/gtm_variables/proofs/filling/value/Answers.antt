use Rattle.std.proofs.Common.{◌∙◌, [], ◌∷◌, subst, sym}
use Rattle.std.specs.Prelude.{Contains}
use Rattle.gtm_variables.proofs.Founds.{name_kept}
use Rattle.gtm_variables.proofs.SoundVariables.{places_within}
use Rattle.gtm_variables.proofs.filling.value.Goals as goal

pub fill_places-requires-clause-within : goal.fill_places-requires-clause-within
fill_places-requires-clause-within g c =
    λ p has.
    places_within c.args.values.now.container.now (c.args.name ∷ []) c.requires.names p
    (subst (λ ps. Contains ps p) (c.as_slice.ensures ∙ c.in_ok-places.ensures) has)

pub returns-clause-value : goal.returns-clause-value
returns-clause-value g c =
    let C = g.C.TemplateCaller in
    let filled = c.fill_places.ensures in
    c.in_ok-value_by_kept.ensures
    ∙ name_kept c.args.values.now c.fill_places.new.values (C.meaning c.args.caller.now)
    (C.meaning c.fill_places.new.caller) filled.same filled.entered.calls filled.caller.kept
    c.args.name
    (λ p has. c.in_ok-fill_places.ensures.there p
    (subst (λ ps. Contains ps p) (sym (c.as_slice.ensures ∙ c.in_ok-places.ensures)) has))
