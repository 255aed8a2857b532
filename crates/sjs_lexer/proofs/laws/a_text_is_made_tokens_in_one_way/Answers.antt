use Rattle.sjs_lexer.proofs.TokenLaws.{tokens_are_one, tokens_or_refusal, one_refusal}
use Rattle.sjs_lexer.proofs.laws.a_text_is_made_tokens_in_one_way.Goals as goal

pub returns : goal.returns
returns c = record { one = tokens_are_one; apart = tokens_or_refusal; refused = one_refusal }
