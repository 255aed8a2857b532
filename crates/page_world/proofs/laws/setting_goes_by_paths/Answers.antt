use Rattle.page_world.proofs.SetPaths.{set_at-there, set_at-else, set_at-above}
use Rattle.page_world.proofs.laws.setting_goes_by_paths.Goals as goal

pub returns-clause-value : goal.returns-clause-value
returns-clause-value c parts v t = set_at-there v parts t

pub returns-clause-others : goal.returns-clause-others
returns-clause-others c parts others v t = set_at-else v parts others t

pub returns-clause-parents : goal.returns-clause-parents
returns-clause-parents c front part rest v t = set_at-above v part rest front t
