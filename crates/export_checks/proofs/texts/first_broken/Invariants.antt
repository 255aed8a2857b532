use Rattle.std.proofs.Common.{◌≡◌, drop}
use Rattle.export_checks.specs.FirstFault.{items_fault}
use Rattle.export_checks.specs.TemplateTexts.{reading_fault}
use Rattle.export_checks.proofs.texts.first_broken.Given as goal

abbrev pub invariant-loop-at : goal.invariant-loop-at
invariant-loop-at g l =
    items_fault (reading_fault g.R.TextRule.broken) l.at (drop l.at l.reading-items)
    ≡ items_fault (reading_fault g.R.TextRule.broken) 0 l.readings
