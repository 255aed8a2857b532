use Rattle.sjs_lexer.proofs.SpanLaws.{tokens_lie}
use Rattle.sjs_lexer.proofs.laws.tokens_lie_in_the_text.Goals as goal

pub returns : goal.returns
returns c = tokens_lie
