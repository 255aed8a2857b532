use Rattle.export_container.proofs.Told.{told_once}
use Rattle.export_container.proofs.laws.each_text_is_told_once.Goals as goal

pub returns : goal.returns
returns c texts = told_once texts
