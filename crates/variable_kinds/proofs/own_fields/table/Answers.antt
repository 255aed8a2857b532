use Rattle.variable_kinds.proofs.Trees.{table_as_list}
use Rattle.variable_kinds.proofs.own_fields.table.Goals as goal
use Rattle.variable_kinds.specs.Kinds.{value_by}

pub returns-in_ok-rows-in-List : goal.returns-in_ok-rows-in-List
returns-in_ok-rows-in-List c =
    table_as_list (value_by c.args.names.now) c.args.value.now c.in-List.params _ c.in-List.is
    c.in_ok-rows-in-List.ensures
