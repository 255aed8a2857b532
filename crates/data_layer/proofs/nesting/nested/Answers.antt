use Rattle.std.proofs.Common.{sym, ap, ◌∙◌}
use Rattle.gtm_data.specs.Tree.{tree_of}
use Rattle.data_layer.specs.Layer.{nest}
use Rattle.data_layer.proofs.Nested.{nest-last}
use Rattle.data_layer.proofs.nesting.nested.Goals as goal

pub loop-part-preserved : goal.loop-part-preserved
loop-part-preserved c =
    let l = c.loop-part in
    ap (nest c.pop.new.self) c.in_ok-made-2.ensures
    ∙ sym (nest-last c.pop.new.self c.in-Some.part (tree_of l.made))
    ∙ ap (λ parts. nest parts (tree_of l.made)) (sym c.in-Some.ensures)
    ∙ l.invariant
