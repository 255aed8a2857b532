use Rattle.sjs_refusal.proofs.Judged.{judged, one_refusal, not_both}
use Rattle.sjs_refusal.proofs.laws.tokens_are_read_or_refused.Goals as goal

pub returns : goal.returns
returns c = record { judged = judged; one = one_refusal; apart = not_both }
