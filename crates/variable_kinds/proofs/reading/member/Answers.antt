use Rattle.gtm_base.proofs.Characters.{chars-ascii}
use Rattle.variable_kinds.proofs.reading.member.Goals as goal

pub returns : goal.returns
returns c = rw (chars-ascii c.args.key.now c.requires) at c.member.ensures
