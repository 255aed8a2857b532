use Rattle.page_world.proofs.Told.{nothing_new}
use Rattle.page_world.proofs.returns.Returns.new.Goals as goal

pub returns : goal.returns
returns c = nothing_new c.new.result c.new.ensures
