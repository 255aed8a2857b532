use Rattle.std.proofs.Common.{◌<◌, length, sym, ap, subst}
use Rattle.variable_kinds.specs.Moment.{Moment}
use Rattle.gtm_variables.proofs.filling.fill_places.Goals as goal

pub fill_all-requires-clause-within : goal.fill_all-requires-clause-within
fill_all-requires-clause-within g c =
    λ p has.
    subst (λ n. p < n)
    (sym (ap (λ (m : Moment). length m.container.variables) c.begin.ensures.same.moment))
    (c.requires.within p has)
