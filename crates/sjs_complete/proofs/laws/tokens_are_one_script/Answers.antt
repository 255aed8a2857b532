use Rattle.sjs_complete.proofs.OneScript.{one_script}
use Rattle.sjs_complete.proofs.laws.tokens_are_one_script.Goals as goal

pub returns : goal.returns
returns c = one_script
