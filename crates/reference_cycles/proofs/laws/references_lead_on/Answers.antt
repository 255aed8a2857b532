use Rattle.reference_cycles.proofs.Leading.{leads_onwards}
use Rattle.reference_cycles.proofs.laws.references_lead_on.Goals as goal

pub returns-clause-onwards : goal.returns-clause-onwards
returns-clause-onwards c = leads_onwards
