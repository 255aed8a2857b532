use Rattle.std.proofs.Common.{◌≡◌, length}
use Rattle.gtm_data.specs.Tree.{trees_of}
use Rattle.perm_reader.specs.Rows.{columns}
use Rattle.perm_reader.specs.Values.{column, column_in}
use Rattle.perm_reader.proofs.values.column.Given as goal

abbrev pub invariant-loop-key : goal.invariant-loop-key
invariant-loop-key l =
    column_in l.name (trees_of l.keys) (trees_of l.values) ≡ column l.name (columns l.row)

abbrev pub decreases-loop-key : goal.decreases-loop-key
decreases-loop-key l = length l.keys
