use Rattle.std.proofs.Common.{◌≡◌, ◌++◌, drop}
use Rattle.export_container.specs.Templates.{templates_of}
use Rattle.export_container.proofs.templates.templates_of.Given as goal

abbrev pub invariant-loop-at : goal.invariant-loop-at
invariant-loop-at l =
    l.made ++ templates_of (drop l.at l.readings) (drop l.at l.template-items)
    ≡ templates_of l.readings l.template-items
