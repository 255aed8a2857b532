use Rattle.std.proofs.Common.{◌≡◌, Some, None, [], ◌∷◌, ◌++◌, sym, ap, ◌∙◌}
use Rattle.gtm_base.proofs.Lookups.{value_of-absent}
use Rattle.gtm_base.specs.Keys.{place_of}
use Rattle.gtm_data.specs.Tree.{tree_of}
use Rattle.data_layer.proofs.Results.{on_ok}
use Rattle.page_world.specs.Returned.{returned_below}
use Rattle.page_world.specs.Returns.{are_parts}
use Rattle.std.specs.Prelude.{if◌then◌else◌}
use Rattle.page_world.proofs.Told.{told_below, told_within, value_at-key}
use Rattle.page_world.proofs.returns.+tell.Goals as goal

pub tell_within-returns : goal.tell_within-returns
tell_within-returns t c =
    on_ok c.tell_below.result c.tell_below.ensures
    (told_within c.args.part.now c.args.rest.now (tree_of c.args.value) c.args.returns.now
    c.tell_below.new.below)

pub tell_below-returns-in-Some : goal.tell_below-returns-in-Some
tell_below-returns-in-Some t c =
    let part = c.args.part.now in
    let rest = c.args.rest.now in
    let pairs = c.args.below.now.pairs in
    let place : place_of part pairs ≡ Some c.in-Some.at =
    ap (λ key. place_of key pairs) (sym c.as_str.ensures.chars) ∙ sym c.place_of.ensures.place
    ∙ c.in-Some.is in
    on_ok c.tell.result c.tell.ensures
    (λ told other others.
    told_below part pairs (are_parts rest others) (Some (tree_of c.args.value)) c.tell.new.returns
    (Some c.in-Some.at) (Some c.value_mut.result.now) other others place
    (value_at-key part pairs c.in-Some.at c.value_mut.result.now place c.value_mut.ensures.value)
    (told others))

pub tell_below-returns-in_ok-copy-in-None : goal.tell_below-returns-in_ok-copy-in-None
tell_below-returns-in_ok-copy-in-None t c =
    let part = c.args.part.now in
    let rest = c.args.rest.now in
    let pairs = c.args.below.now.pairs in
    let value = Some (tree_of c.args.value) in
    let place : place_of part pairs ≡ None =
    ap (λ key. place_of key pairs) (sym c.as_str.ensures.chars) ∙ sym c.place_of.ensures.place
    ∙ c.in-None.is in
    on_ok c.push.result c.push.ensures.ok
    (λ added other others.
    ap (λ ps. returned_below ps (other ∷ others))
    (added ∙ ap (λ key. pairs ++ (key, c.tell-in-None.new.returns) ∷ [])
    c.in_ok-copy-in-None.ensures)
    ∙ told_below part pairs (are_parts rest others) value c.tell-in-None.new.returns None None other
    others place (value_of-absent part pairs place)
    (c.in_ok-tell-in-None.ensures others
    ∙ ap (λ before. if are_parts rest others then value else before)
    (c.new-returns.ensures others)))
