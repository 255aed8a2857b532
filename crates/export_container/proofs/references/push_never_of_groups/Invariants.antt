use Rattle.std.proofs.Common.{◌≡◌, ◌++◌, take}
use Rattle.export_container.specs.References.{never_of_groups}
use Rattle.export_container.proofs.references.push_never_of_groups.Given as goal

abbrev pub invariant-loop-trigger : goal.invariant-loop-trigger
invariant-loop-trigger l =
    l.made ≡ l.initial.made ++ never_of_groups l.ids (take l.trigger-index l.triggers)
