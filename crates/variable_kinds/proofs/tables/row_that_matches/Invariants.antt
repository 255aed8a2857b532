use Rattle.std.proofs.Common.{◌≡◌, drop}
use Rattle.gtm_data.specs.Tree.{tree_of, trees_of}
use Rattle.variable_kinds.proofs.tables.row_that_matches.Given as goal
use Rattle.variable_kinds.specs.Ends.{finds}
use Rattle.variable_kinds.specs.Fields.{first_row}
use Rattle.variable_kinds.specs.Patterns.{pattern_in}

abbrev pub invariant-loop-row : goal.invariant-loop-row
invariant-loop-row g l = record {
  told : first_row (λ key. finds (pattern_in (tree_of l.fields) key) l.input)
      (trees_of (drop l.row-index l.rows))
      ≡ first_row (λ key. finds (pattern_in (tree_of l.fields) key) l.input) (trees_of l.rows);
  quiet : g.E.Engines.state l.engines ≡ g.E.Engines.state l.fn.engines;
}
