use Rattle.sjs_lexer.proofs.DigitLaws.{to_value, from_value}
use Rattle.sjs_lexer.proofs.laws.digits_write_their_value.Goals as goal

pub returns : goal.returns
returns c =
    λ base limit number digits some.
    (to_value base limit number digits, from_value base limit number digits some)
