use Rattle.sjs_syntax.specs.Words.{signs}
use Rattle.sjs_syntax.proofs.LongestSign.{found_sign, found_none}
use Rattle.sjs_syntax.proofs.words.sign_at.Goals as goal

pub returns-clause-longest : goal.returns-clause-longest
unfolding signs
returns-clause-longest c =
    found_sign c.args.text.now c.first_entry.result c.utf8.text c.first_entry.ensures

pub returns-clause-none : goal.returns-clause-none
unfolding signs
returns-clause-none c =
    found_none c.args.text.now c.first_entry.result c.utf8.text c.first_entry.ensures
