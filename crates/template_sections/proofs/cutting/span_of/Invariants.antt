use Rattle.std.proofs.Common.{◌≡◌, drop}
use Rattle.template_sections.specs.Cut.{span_of}
use Rattle.template_sections.proofs.cutting.span_of.Given as goal

abbrev pub invariant-loop-at : goal.invariant-loop-at
invariant-loop-at l =
    span_of l.name l.whole (drop l.at l.headings) ≡ span_of l.name l.whole l.headings
