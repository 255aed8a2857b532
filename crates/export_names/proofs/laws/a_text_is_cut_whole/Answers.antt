use Rattle.export_names.proofs.Unique.{only_cut}
use Rattle.export_names.proofs.Wholes.{cut_whole}
use Rattle.export_names.proofs.laws.a_text_is_cut_whole.Goals as goal

pub returns-clause-whole : goal.returns-clause-whole
returns-clause-whole c = cut_whole

pub returns-clause-only : goal.returns-clause-only
returns-clause-only c = λ text pieces. only_cut pieces text
