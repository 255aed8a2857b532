use Rattle.perm_model.specs.Names.{permissions}
use Rattle.perm_model.proofs.permissions.permission_named.Goals as goal

pub returns : goal.returns
unfolding permissions
returns c = c.named_among.ensures
