use Rattle.std.proofs.Common.{◌≡◌, take, map}
use Rattle.export_names.specs.Types.{own_type}
use Rattle.export_names.proofs.types.own_types.Given as goal

abbrev pub invariant-loop-template : goal.invariant-loop-template
invariant-loop-template l = l.made ≡ map own_type (take l.template-index l.written)
