use Rattle.sjs_table.proofs.Builds.{builds}
use Rattle.sjs_table.proofs.laws.notes_build_their_script.Goals as goal

pub returns : goal.returns
returns c = builds
