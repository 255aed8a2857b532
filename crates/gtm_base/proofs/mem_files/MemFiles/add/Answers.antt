use Rattle.gtm_base.proofs.Lookups.{length-with_value}
use Rattle.gtm_base.proofs.mem_files.MemFiles.add.Goals as goal

pub invariant_of-self : goal.invariant_of-self
invariant_of-self c = λ place is. rw length-with_value (c.self.invariant place is)
