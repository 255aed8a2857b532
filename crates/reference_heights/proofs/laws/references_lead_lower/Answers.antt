use Rattle.std.proofs.Common.{arith}
use Rattle.reference_heights.specs.Along.{higher}
use Rattle.reference_heights.proofs.Alongs.{along_unfolds, height_within, higher_reads}
use Rattle.reference_heights.proofs.Alongs.{refers_lower}
use Rattle.reference_heights.proofs.laws.references_lead_lower.Goals as goal

pub returns-clause-one_more : goal.returns-clause-one_more
returns-clause-one_more c graph at none =
    along_unfolds graph (higher graph) 0 (higher_reads graph) none at

pub returns-clause-lower : goal.returns-clause-lower
returns-clause-lower c graph from to none refers = refers_lower graph none from to refers

pub returns-clause-within : goal.returns-clause-within
returns-clause-within c graph at = let e = height_within graph at in omega (arith, e)
