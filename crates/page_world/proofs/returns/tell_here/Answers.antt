use Rattle.page_world.proofs.Told.{told_here}
use Rattle.page_world.proofs.returns.tell_here.Goals as goal

pub returns : goal.returns
returns c = told_here c.args.value c.args.returns.now
