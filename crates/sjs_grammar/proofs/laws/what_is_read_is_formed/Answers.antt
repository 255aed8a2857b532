use Rattle.sjs_grammar.proofs.Formed.{formed}
use Rattle.sjs_grammar.proofs.laws.what_is_read_is_formed.Goals as goal

pub returns : goal.returns
returns c = formed
