use Rattle.gtm_data.specs.Tree.{tree_of, trees_of}
use Rattle.variable_kinds.proofs.AskedTexts.{asks_on, row_among}
use Rattle.variable_kinds.proofs.tables.row_that_matches.Goals as goal
use Rattle.variable_kinds.specs.Patterns.{row_patterns, patterns_of}

pub returns-in_err-matches-clause-asks : goal.returns-in_err-matches-clause-asks
returns-in_err-matches-clause-asks g c =
    let fields = tree_of c.args.fields.now in
    let rows = c.args.rows.now in
    asks_on (row_patterns fields (tree_of c.row-item.result)) (patterns_of fields (trees_of rows))
    c.from_residual.result c.in_err-matches.field-0.0 _ _ _ c.loop-row.invariant.quiet
    (row_among fields rows c.loop-row.row-index c.row-item.result c.loop-row-test.true
    c.row-item.is)
    c.from_residual.ensures.0 c.from_residual.ensures.1 c.in_err-matches.ensures.asks
