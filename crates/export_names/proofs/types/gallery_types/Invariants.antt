use Rattle.std.proofs.Common.{◌≡◌, take, map}
use Rattle.export_names.specs.Types.{gallery_type}
use Rattle.export_names.proofs.types.gallery_types.Given as goal

abbrev pub invariant-loop-template : goal.invariant-loop-template
invariant-loop-template l = l.made ≡ map gallery_type (take l.template-index l.written)
