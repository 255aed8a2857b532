use Rattle.std.proofs.Common.{◌≡◌, ◌++◌, drop}
use Rattle.template_fields.specs.Fields.{names_of, first_fields, distinct_fields}
use Rattle.template_fields.proofs.firsts.distinct_fields.Given as goal

abbrev pub invariant-loop-at : goal.invariant-loop-at
invariant-loop-at l =
    l.made ++ first_fields (names_of l.fields) l.at (drop l.at l.fields)
    ≡ distinct_fields l.fields
