use Rattle.sjs_refusal.proofs.Begins.{begins_so, begins_not}
use Rattle.sjs_refusal.proofs.laws.the_machine_goes_as_far_as_scripts_do.Goals as goal

pub returns : goal.returns
returns c = record { goes = begins_so; stops = begins_not }
