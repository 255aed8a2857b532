use Rattle.std.proofs.Common.{◌≡◌, take, map}
use Rattle.export_container.specs.BuiltIns.{built_in_of}
use Rattle.export_container.proofs.built_ins.built_ins_of.Given as goal

abbrev pub invariant-loop-built_in : goal.invariant-loop-built_in
invariant-loop-built_in l = l.made ≡ map built_in_of (take l.built_in-index l.written)
