use Rattle.std.proofs.Common.{◌≡◌, drop}
use Rattle.std.specs.List.{position_from}
use Rattle.std.specs.Str.{bytes_eq}
use Rattle.perm_model.specs.Rows.{rows_of}
use Rattle.perm_model.specs.Apis.{row_named}
use Rattle.perm_model.proofs.apis.row_named.Given as goal

abbrev pub invariant-loop-at : goal.invariant-loop-at
invariant-loop-at l =
    position_from (λ r. bytes_eq r.0 l.name) l.at (rows_of (drop l.at l.table))
    ≡ row_named (rows_of l.table) l.name
