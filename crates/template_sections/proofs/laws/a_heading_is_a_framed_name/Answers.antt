use Rattle.template_sections.proofs.HeadingLaws.{heading_of, heading_found}
use Rattle.template_sections.proofs.laws.a_heading_is_a_framed_name.Goals as goal

pub returns : goal.returns
returns c = λ line name. (heading_of line name, heading_found line name)
