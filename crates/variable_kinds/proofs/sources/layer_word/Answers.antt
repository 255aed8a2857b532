use Rattle.gtm_base.proofs.Characters.{chars-ascii}
use Rattle.variable_kinds.proofs.sources.layer_word.Goals as goal

pub returns : goal.returns
returns c = rw (chars-ascii c.args.key.now c.requires.ascii) at c.layer_at.ensures
