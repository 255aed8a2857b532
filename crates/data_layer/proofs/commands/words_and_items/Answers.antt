use Rattle.std.proofs.Common.{◌≡◌, Some, option_map, sym, ap, ◌∙◌}
use Rattle.gtm_data.proofs.Levels.{tree_of-List}
use Rattle.gtm_data.specs.Tree.{tree_of, trees_of, list, text_in}
use Rattle.data_layer.specs.Command.{command_in}
use Rattle.data_layer.proofs.Asked.{words_first}
use Rattle.data_layer.proofs.commands.words_and_items.Goals as goal

pub returns : goal.returns
returns c =
    let items = c.as_slice.result.now in
    let is : text_in (tree_of c.first-item.result) ≡ Some c.in_ok-as_text.field-0.now =
    sym c.as_text.ensures ∙ ap (option_map (λ text. text.now)) c.in_ok-as_text.was in
    ap command_in
    (ap tree_of c.in-List.is ∙ tree_of-List c.in-List.list
    ∙ ap (λ found. list (trees_of found)) (sym c.as_slice.ensures))
    ∙ words_first items c.first-item.result c.in_ok-as_text.field-0.now c.in-len1-up.len_at_least
    c.first-item.is is
