use Rattle.std.proofs.Common.{◌≡◌, false, None, if◌then◌else◌, unwrap_or, sym, ap, ◌∙◌, map}
use Rattle.gtm_data.specs.Tree.{tree_of}
use Rattle.data_layer.specs.Change.{changed_at}
use Rattle.data_layer.specs.Command.{adds_too_deep, after_method}
use Rattle.data_layer.specs.Target.{asked, changed_by}
use Rattle.data_layer.proofs.Changes.{items_change, after_items}
use Rattle.data_layer.proofs.Results.{on_ok}
use Rattle.data_layer.proofs.commands.run_command.Goals as goal

pub returns-clause-changed : goal.returns-clause-changed
returns-clause-changed c =
    let command = c.args.command.now in
    let model = tree_of c.args.model.now in
    let shallow : adds_too_deep (asked command) ≡ false =
    sym c.adds_too_deep.ensures ∙ c.if-adds_too_deep.false in
    let change = after_method command.method (map tree_of command.items.now) in
    on_ok c.change_at.result c.change_at.ensures.changed
    (λ made.
    made
    ∙ ap (λ parts. changed_at parts (changed_by command) model) c.as_slice.ensures
    ∙ items_change command.path change model
    ∙ ap (λ test. unwrap_or (if test then None else after_items command.path change model) model)
    (sym shallow))
