use Rattle.std.proofs.Common.{◌≡◌, ◌++◌}
use Rattle.std.specs.List.{flat_map}
use Rattle.gtm_data.specs.Plain.{pointer_char}
use Rattle.gtm_data.proofs.refusing.push_pointer.Given as goal

abbrev pub invariant-loop-c : goal.invariant-loop-c
invariant-loop-c l = l.out ≡ l.fn.out ++ flat_map pointer_char l.yielded
