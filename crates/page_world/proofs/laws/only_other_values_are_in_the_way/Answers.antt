use Rattle.page_world.proofs.InTheWay.{leads_through, is_stopped}
use Rattle.page_world.proofs.laws.only_other_values_are_in_the_way.Goals as goal

pub returns-clause-other : goal.returns-clause-other
returns-clause-other c = leads_through

pub returns-clause-blocks : goal.returns-clause-blocks
returns-clause-blocks c = is_stopped
