use Rattle.gtm_base.proofs.Characters.{chars-ascii}
use Rattle.gtm_base.proofs.text.Text.push_word.Goals as goal

pub returns-clause-ok : goal.returns-clause-ok
returns-clause-ok c = rw (chars-ascii c.args.word.now c.requires) at c.push_str.ensures.ok
