use Rattle.std.proofs.Common.{◌≡◌, take}
use Rattle.std.specs.Prelude.{map}
use Rattle.template_sections.proofs.cutting.names_of.Given as goal

abbrev pub invariant-loop-heading : goal.invariant-loop-heading
invariant-loop-heading l =
    map (λ n. n.now) l.names.items ≡ map (λ h. h.name) (take l.heading-index l.headings)
