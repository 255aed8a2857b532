use Rattle.std.proofs.Common.{◌≡◌, ap, ◌∙◌}
use Rattle.gtm_data.specs.Tree.{foreign, tree_of}
use Rattle.data_layer.proofs.Results.{on_ok}
use Rattle.page_world.specs.Facts.{set_global}
use Rattle.page_world.specs.Known.{page_of}
use Rattle.page_world.specs.Page.{PageState}
use Rattle.page_world.specs.Returns.{with_return}
use Rattle.page_world.proofs.Overwrites.{tree_of-Foreign}
use Rattle.page_world.proofs.facts.put_function.Goals as goal

pub returns : goal.returns
returns c =
    let parts = c.args.parts.now in
    let known = page_of c.args.page.now in
    let told : PageState → PageState =
    λ set. record set { returns = with_return parts (tree_of c.args.value) set.returns } in
    let set : page_of c.put_global.new.page ≡ set_global parts foreign known =
    c.in_ok-put_global.ensures ∙ ap (λ t. set_global parts t known) tree_of-Foreign in
    on_ok c.tell.result c.tell.ensures
    (λ is.
    let same : page_of (record c.put_global.new.page { returns = c.tell.new.returns })
    ≡ told (page_of c.put_global.new.page) =
    λ i. record (page_of c.put_global.new.page) { returns = λ others. is others i } in
    same ∙ ap told set)
