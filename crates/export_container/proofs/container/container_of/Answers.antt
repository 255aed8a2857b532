use Rattle.std.proofs.Common.{◌≡◌, ◌∙◌, ap, sym, subst}
use Rattle.export_model.specs.Sound.{InRange}
use Rattle.export_container.proofs.EntriesInRange.{in_range}
use Rattle.export_container.specs.Container.{container_by, container_of}
use Rattle.export_container.proofs.container.container_of.Goals as goal

pub returns-clause-in_range : goal.returns-clause-in_range
returns-clause-in_range c =
    let made : c.in_ok-container.container ≡ container_of c.args.readings.now c.args.written.now =
    c.in_ok-container.ensures
    ∙ ap (λ lists. container_by lists c.args.readings.now c.args.written.now) c.requires.known in
    subst InRange (sym made) (in_range c.args.readings.now c.args.written.now c.requires.read)
