use Rattle.std.proofs.Common.{◌≡◌}
use Rattle.std.specs.List.{slice_get}
use Rattle.form_urlencoded.specs.Parse.{raw_pairs_left}
use Rattle.address_parts.specs.Query.{values_in, first_value}
use Rattle.address_parts.proofs.values.first_value.Given as goal

abbrev pub invariant-loop-name : goal.invariant-loop-name
invariant-loop-name l =
    slice_get (values_in l.key (raw_pairs_left l.name-iterator)) 0 ≡ first_value l.query l.key
