use Rattle.sjs_worked.proofs.ReadShown.{are_read}
use Rattle.sjs_worked.proofs.RefusedShown.{are_refused}
use Rattle.sjs_worked.proofs.laws.scripts_are_worked.Goals as goal

pub returns : goal.returns
returns c = record { reads = are_read; refuses = are_refused }
