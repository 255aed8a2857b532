use Rattle.sjs_syntax.specs.Words.{words}
use Rattle.sjs_syntax.proofs.words.is_left_out_word.Goals as goal

pub returns : goal.returns
unfolding words
returns c = c.is_left_out_entry.ensures
