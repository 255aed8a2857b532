use Rattle.std.proofs.Common.{◌≡◌, ◌++◌, map, drop}
use Rattle.export_checks.specs.TableValues.{table_names}
use Rattle.export_checks.proofs.tables.table_names.Given as goal

abbrev pub invariant-loop-field : goal.invariant-loop-field
invariant-loop-field l =
    map (λ name. name.now) l.names.items ++ table_names (drop l.field-index l.fields)
    ≡ table_names l.fields
