use Rattle.sjs_verdicts.proofs.OneVerdict.{some_verdict, one_verdict}
use Rattle.sjs_verdicts.proofs.laws.each_text_has_one_verdict.Goals as goal

pub returns : goal.returns
returns c = record { some = some_verdict; one = one_verdict }
