use Rattle.std.proofs.Common.{◌≡◌, Some, option_map, subst, sym, ap, ◌∙◌, Option}
use Rattle.std.specs.Option.{option_and_then}
use Rattle.std.specs.Prelude.{IfOk, List, ℕ}
use Rattle.gtm_data.specs.Tree.{Tree, tree_of}
use Rattle.variable_kinds.proofs.tables.row_for_input.Goals as goal
use Rattle.variable_kinds.specs.Ends.{finds}
use Rattle.variable_kinds.specs.Fields.{first_row, input_of, rows_of}
use Rattle.variable_kinds.specs.Patterns.{pattern_in}

pub returns-in-Some-clause-value : goal.returns-in-Some-clause-value
returns-in-Some-clause-value g c =
    let fields = tree_of c.args.fields.now in
    let input : input_of fields ≡ Some c.in-Some.input =
    sym c.in_ok-input.ensures ∙ c.in-Some.is in
    let test = λ (input : List ℕ). λ (key : List ℕ). finds (pattern_in fields key) input in
    subst (λ (t : Option Tree).
    IfOk c.row_that_matches.result (λ found. option_map tree_of found ≡ t))
    (ap (first_row (test c.in-Some.input)) c.rows.ensures
    ∙ sym (ap (option_and_then (λ input. first_row (test input) (rows_of fields))) input))
    c.row_that_matches.ensures.value
