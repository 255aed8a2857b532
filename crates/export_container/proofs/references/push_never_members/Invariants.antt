use Rattle.std.proofs.Common.{◌≡◌, ◌++◌, take}
use Rattle.export_container.specs.References.{never_ids}
use Rattle.export_names.specs.Values.{values_of}
use Rattle.export_container.proofs.references.push_never_members.Given as goal

abbrev pub invariant-loop-param : goal.invariant-loop-param
invariant-loop-param l =
    l.made ≡ l.initial.made ++ never_ids l.ids (values_of (take l.param-index l.params))
