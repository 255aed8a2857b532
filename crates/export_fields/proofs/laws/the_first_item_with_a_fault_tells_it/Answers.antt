use Rattle.export_fields.proofs.FirstFaults.{none_fails_exactly, first_exactly}
use Rattle.export_fields.proofs.laws.the_first_item_with_a_fault_tells_it.Goals as goal

pub returns-clause-none : goal.returns-clause-none
returns-clause-none c fault items = none_fails_exactly fault items

pub returns-clause-first : goal.returns-clause-first
returns-clause-first c fault items path = first_exactly fault items path
