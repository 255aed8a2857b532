use Rattle.export_names.proofs.LookUps.{looked_up}
use Rattle.export_names.proofs.laws.each_name_is_looked_up.Goals as goal

pub returns : goal.returns
returns c names written = looked_up names written
