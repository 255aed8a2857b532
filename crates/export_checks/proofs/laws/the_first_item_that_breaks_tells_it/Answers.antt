use Rattle.export_checks.proofs.FirstFaults.{none_exactly, first_exactly}
use Rattle.export_checks.proofs.laws.the_first_item_that_breaks_tells_it.Goals as goal

pub returns-clause-none : goal.returns-clause-none
returns-clause-none g c fault items = none_exactly fault items

pub returns-clause-first : goal.returns-clause-first
returns-clause-first g c fault items path = first_exactly fault items path
