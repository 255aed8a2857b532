use Rattle.export_names.proofs.FirstUse.{first_by_names}
use Rattle.export_names.proofs.laws.a_type_finds_the_first_template.Goals as goal

pub returns : goal.returns
returns c kind templates = first_by_names kind templates
