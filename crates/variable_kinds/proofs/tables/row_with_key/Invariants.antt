use Rattle.std.proofs.Common.{◌≡◌, drop}
use Rattle.std.specs.Str.{bytes_eq}
use Rattle.gtm_data.specs.Tree.{trees_of}
use Rattle.variable_kinds.proofs.tables.row_with_key.Given as goal
use Rattle.variable_kinds.specs.Fields.{first_row}

abbrev pub invariant-loop-row : goal.invariant-loop-row
invariant-loop-row l =
    first_row (λ key. bytes_eq key l.input) (trees_of (drop l.row-index l.table))
    ≡ first_row (λ key. bytes_eq key l.input) (trees_of l.table)
