use Rattle.std.proofs.Common.{◌≡◌, drop}
use Rattle.perm_model.specs.Names.{named_among}
use Rattle.perm_model.proofs.permissions.named_among.Given as goal

abbrev pub invariant-loop-permission : goal.invariant-loop-permission
invariant-loop-permission l =
    named_among (drop l.permission-index l.permissions) l.name ≡ named_among l.permissions l.name
