use Rattle.std.proofs.Common.{◌≡◌, take}
use Rattle.export_checks.specs.TableValues.{tables_of}
use Rattle.export_checks.proofs.tables.tables_of.Given as goal

abbrev pub invariant-loop-reading : goal.invariant-loop-reading
invariant-loop-reading l = l.made ≡ tables_of (take l.reading-index l.reading-items)
