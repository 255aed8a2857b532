use Rattle.std.proofs.Common.{◌≡◌, ◌++◌, take}
use Rattle.export_container.specs.References.{never_ids}
use Rattle.export_container.proofs.references.push_never.Given as goal

abbrev pub invariant-loop-id : goal.invariant-loop-id
invariant-loop-id l = l.made ≡ l.initial.made ++ never_ids l.ids (take l.id-index l.texts)
