use Rattle.page_world.proofs.Below.{is_within-parts}
use Rattle.page_world.proofs.laws.keys_below_go_on_with_a_dot.Goals as goal

pub returns : goal.returns
returns c = is_within-parts
