use Rattle.variable_kinds.proofs.Trees.{row_as_map}
use Rattle.variable_kinds.proofs.own_fields.row.Goals as goal
use Rattle.variable_kinds.specs.Kinds.{value_by}

pub returns-in_ok-resolved_members-in-Map : goal.returns-in_ok-resolved_members-in-Map
returns-in_ok-resolved_members-in-Map c =
    row_as_map (value_by c.args.names.now) c.args.value.now c.in-Map.params
    c.in_ok-resolved_members-in-Map.field-0 c.in-Map.is
    c.in_ok-resolved_members-in-Map.ensures
