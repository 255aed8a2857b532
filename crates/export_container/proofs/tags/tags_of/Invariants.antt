use Rattle.std.proofs.Common.{◌≡◌, take, map}
use Rattle.export_container.specs.Tags.{tag_of}
use Rattle.export_container.proofs.tags.tags_of.Given as goal

abbrev pub invariant-loop-tag : goal.invariant-loop-tag
invariant-loop-tag l = l.made ≡ map (tag_of l.known) (take l.tag-index l.written)
