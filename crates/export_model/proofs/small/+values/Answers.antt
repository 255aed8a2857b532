use Rattle.std.proofs.Common.{◌∙◌, ap, sym}
use denote.Hole.Carrier.{roll}
use Rattle.export_model.specs.Params.{value_of}
use Rattle.export_model.specs.Small.{is_small_value}
use Rattle.export_model.specs.declared.params.ParamValue.TheViews.{roll-ParamValue}
use Rattle.export_model.proofs.ValueTrees.{tree_of_list, tree_of_map}
use Rattle.export_model.proofs.small.+values.Goals as goal

pub is_small_value-returns-in-List : goal.is_small_value-returns-in-List
unfolding is_small_value roll-ParamValue roll
is_small_value-returns-in-List t c =
    c.are_few_and_small.ensures
    ∙ sym (ap is_small_value (ap value_of c.in-List.is ∙ tree_of_list c.in-List.params))

pub is_small_value-returns-in-Map : goal.is_small_value-returns-in-Map
unfolding is_small_value roll-ParamValue roll
is_small_value-returns-in-Map t c =
    c.are_few_and_small-in-Map.ensures
    ∙ sym (ap is_small_value (ap value_of c.in-Map.is ∙ tree_of_map c.in-Map.params))
