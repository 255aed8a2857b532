use Rattle.std.proofs.Common.{◌≡◌, min}
use Rattle.gtm_data.specs.WholeText.{read_on}
use Rattle.export_checks.proofs.numbers.capped_number.Given as goal

abbrev pub invariant-loop-c : goal.invariant-loop-c
invariant-loop-c l = l.number ≡ min (read_on 0 l.yielded) 2147479000
