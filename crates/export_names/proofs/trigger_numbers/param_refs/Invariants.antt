use Rattle.std.proofs.Common.{◌≡◌, take}
use Rattle.export_names.specs.TriggerRefs.{trigger_refs}
use Rattle.export_names.specs.Values.{values_of}
use Rattle.export_names.proofs.trigger_numbers.param_refs.Given as goal

abbrev pub invariant-loop-param : goal.invariant-loop-param
invariant-loop-param l = l.made ≡ trigger_refs l.ids (values_of (take l.param-index l.params))
