use Rattle.export_container.proofs.Groups.{group_by_kind}
use Rattle.export_container.proofs.laws.a_group_is_known_by_its_kind.Goals as goal

pub returns : goal.returns
returns c written = group_by_kind written
