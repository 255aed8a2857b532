use Rattle.sjs_syntax.specs.Words.{signs}
use Rattle.sjs_syntax.proofs.words.is_left_out_sign.Goals as goal

pub returns : goal.returns
unfolding signs
returns c = c.is_left_out_entry.ensures
