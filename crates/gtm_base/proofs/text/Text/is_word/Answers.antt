use Rattle.std.proofs.Common.{◌∙◌, ap}
use Rattle.std.specs.Str.{bytes_eq}
use Rattle.gtm_base.proofs.Characters.{chars-ascii}
use Rattle.gtm_base.proofs.text.Text.is_word.Goals as goal

pub returns : goal.returns
returns c = c.is.ensures ∙ ap (bytes_eq c.args.self.now) (chars-ascii c.args.word.now c.requires)
