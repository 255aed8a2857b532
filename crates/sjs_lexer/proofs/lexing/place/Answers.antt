use Rattle.std.proofs.Common.{arith, length, sym, ap, ◌-◌, ◌∙◌}
use Rattle.std.specs.Str.{chars}
use Rattle.sjs_lexer.specs.Tokens.{bytes_in}
use Rattle.sjs_lexer.proofs.Fronts.{split_length}
use Rattle.sjs_lexer.proofs.Walks.{bytes_of}
use Rattle.sjs_lexer.proofs.lexing.place.Goals as goal

pub overflow_sub-result : goal.overflow_sub-result
overflow_sub-result c =
    omega (
      arith,
      split_length c.args.text.now c.requires.0 c.args.left.now c.utf8.text c.utf8.left c.requires.1,
    )

pub returns : goal.returns
returns c =
    sym (ap (λ n. n - bytes_in (chars c.args.left.now)) (bytes_of c.args.text.now c.utf8.text)
    ∙ ap (λ n. length c.args.text.now - n) (bytes_of c.args.left.now c.utf8.left))
