use Rattle.std.proofs.Common.{◌∙◌, ap}
use Rattle.std.specs.Str.{chars}
use Rattle.gtm_base.proofs.Characters.{chars-ascii}
use Rattle.perm_reader.specs.Patterns.{behind}
use Rattle.perm_reader.proofs.patterns.behind.Goals as goal

pub returns : goal.returns
returns c =
    c.behind_chars.ensures
    ∙ ap (λ front. behind front (chars c.args.text.now)) (chars-ascii c.args.front.now c.requires)
