-- The columns of a row that is lent.
use Rattle.gtm_data.specs.Tree.{trees_of}
use Rattle.perm_reader.specs.Values.{Columns}
use Rattle.perm_reader.specs.declared.values.Row.{Row}

abbrev pub columns : Row → Columns
columns row = record { keys = trees_of row.keys.now; values = trees_of row.values.now }
