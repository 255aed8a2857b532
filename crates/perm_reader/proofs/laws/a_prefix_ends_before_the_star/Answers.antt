use Rattle.std.proofs.Common.{◌∙◌, ap}
use Rattle.perm_reader.specs.Patterns.{before_last_star}
use Rattle.perm_reader.proofs.PatternLaws.{star_of, star_behind}
use Rattle.perm_reader.proofs.laws.a_prefix_ends_before_the_star.Goals as goal

pub returns : goal.returns
returns c = λ text front.
    (star_of text front, λ split. ap before_last_star split ∙ star_behind front)
