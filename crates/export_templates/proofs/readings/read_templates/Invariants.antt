use Rattle.std.proofs.Common.{◌≡◌, take}
use Rattle.export_templates.specs.Readings.{readings_of}
use Rattle.export_templates.proofs.readings.read_templates.Given as goal

abbrev pub invariant-loop-template : goal.invariant-loop-template
invariant-loop-template l = l.made ≡ readings_of (take l.template-index l.template-items)
