use Rattle.std.proofs.Common.{sym, ap, ◌∙◌, map}
use Rattle.gtm_data.proofs.Levels.{tree_of-List}
use Rattle.gtm_data.specs.Tree.{tree_of}
use Rattle.data_layer.specs.Command.{after_method}
use Rattle.data_layer.specs.Target.{changed_by}
use Rattle.data_layer.proofs.Asked.{list_changed}
use Rattle.data_layer.proofs.changing.change_list.Goals as goal

pub returns-in_ok-run_method-in-Some-clause-changed : goal.returns-in_ok-run_method-in-Some-clause-changed
returns-in_ok-run_method-in-Some-clause-changed c =
    let command = c.args.command.now in
    tree_of-List c.run_method.new.list
    ∙ list_changed (after_method command.method (map tree_of command.items.now)) c.in-Some.list.now
    c.run_method.new.list c.in_ok-run_method-in-Some.ensures
    ∙ ap (changed_by command)
    (sym (ap tree_of c.in-Some.ensures.items ∙ tree_of-List c.in-Some.list.now))
