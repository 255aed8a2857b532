use Rattle.std.proofs.Common.{sym, ap, ◌∙◌}
use Rattle.std.specs.Str.{chars}
use Rattle.gtm_data.specs.Paths.{member_of}
use Rattle.gtm_data.specs.Tree.{tree_of}
use Rattle.gtm_data.proofs.Levels.{tree_of-Map}
use Rattle.gtm_data.proofs.Members.{got}
use Rattle.gtm_data.proofs.data.Data.member.Goals as goal

pub returns-in-Map : goal.returns-in-Map
returns-in-Map c =
    got c.get.result (chars c.args.key.now) c.in-Map.members.pairs c.get.ensures
    ∙ ap (member_of (chars c.args.key.now))
    (sym (ap tree_of c.in-Map.is ∙ tree_of-Map c.in-Map.members))
