use Rattle.std.proofs.Common.{◌≡◌, ◌+◌, ◌++◌, length}
use Rattle.template_sections.specs.Lines.{lines}
use Rattle.template_sections.specs.Scan.{headings_from}
use Rattle.template_sections.proofs.headings.headings.Given as goal

abbrev pub invariant-loop-left : goal.invariant-loop-left
invariant-loop-left l = record {
  within : l.at + length l.left ≡ length l.text;
  same : l.found ++ headings_from l.at (lines l.left) ≡ headings_from 0 (lines l.text);
}

abbrev pub decreases-loop-left : goal.decreases-loop-left
decreases-loop-left l = length l.left
