use Rattle.std.proofs.Common.{◌≡◌, ◌++◌, take}
use Rattle.export_container.specs.References.{never_of_tags}
use Rattle.export_container.proofs.references.push_never_of_tags.Given as goal

abbrev pub invariant-loop-tag : goal.invariant-loop-tag
invariant-loop-tag l = l.made ≡ l.initial.made ++ never_of_tags l.ids (take l.tag-index l.tags)
