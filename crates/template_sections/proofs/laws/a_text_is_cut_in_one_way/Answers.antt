use Rattle.template_sections.proofs.PartsFound.{one_first, one_list}
use Rattle.template_sections.proofs.laws.a_text_is_cut_in_one_way.Goals as goal

pub returns-clause-first : goal.returns-clause-first
returns-clause-first c = one_first

pub returns-clause-parts : goal.returns-clause-parts
returns-clause-parts c = one_list
