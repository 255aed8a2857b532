use Rattle.std.proofs.Common.{arith, ◌++◌, sym, ap, ◌∙◌}
use Rattle.std.specs.Str.{chars}
use Rattle.sjs_lexer.proofs.Fronts.{split_length, front_boundary, front_chars}
use Rattle.sjs_lexer.proofs.names.front.Goals as goal

pub overflow_sub-text : goal.overflow_sub-text
overflow_sub-text c =
    omega (
      arith,
      split_length c.args.text.now c.requires.0 c.args.rest.now c.utf8.text c.utf8.rest c.requires.1,
    )

pub split_at-requires : goal.split_at-requires
split_at-requires c =
    front_boundary c.args.text.now c.requires.0 c.args.rest.now c.utf8.text c.utf8.rest c.requires.1

pub returns : goal.returns
returns c =
    front_chars c.args.text.now c.requires.0 c.args.rest.now c.utf8.text c.utf8.rest c.requires.1
    ∙ ap (λ t. chars t ++ chars c.args.rest.now) (sym c.split_at.ensures.front)
