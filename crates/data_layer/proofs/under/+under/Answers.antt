use Rattle.std.proofs.Common.{◌≡◌, Some, None, [], ◌∷◌, ◌++◌, sym, ap, ◌∙◌}
use Rattle.std.specs.Str.{chars}
use Rattle.gtm_base.specs.Keys.{place_of}
use Rattle.gtm_data.specs.Paths.{dotted}
use Rattle.gtm_data.specs.Tree.{tree_of, entries_of, object}
use Rattle.data_layer.specs.Layer.{nest}
use Rattle.data_layer.specs.Merge.{merge}
use Rattle.data_layer.proofs.Members.{set_member, add_member}
use Rattle.data_layer.proofs.Results.{on_ok}
use Rattle.data_layer.proofs.PartByPart.{under_part, over_no_map}
use Rattle.data_layer.proofs.under.+under.Goals as goal

pub merge_under-returns-in-None : goal.merge_under-returns-in-None
merge_under-returns-in-None t c =
    on_ok c.overwrite.result c.overwrite.ensures
    (λ made. made
    ∙ sym (over_no_map (chars c.args.key.now) (tree_of c.args.value.now)
    (tree_of c.args.model.now) c.in-None.ensures.none))

pub merge_within-returns-in-Some : goal.merge_within-returns-in-Some
merge_within-returns-in-Some t c =
    let part = chars c.in-Some.part.now in
    let rest = dotted (chars c.in-Some.rest.now) in
    let value = tree_of c.args.value.now in
    let model = entries_of c.args.model.now.pairs in
    on_ok c.merge_below.result c.merge_below.ensures
    (λ made. ap object made ∙ sym (under_part part rest value model)
    ∙ ap (λ ps. merge (nest ps value) (object model)) (sym c.in-Some.ensures.parts))

pub merge_within-returns-in-None : goal.merge_within-returns-in-None
merge_within-returns-in-None t c =
    let value = tree_of c.args.value.now in
    let model = entries_of c.args.model.now.pairs in
    on_ok c.merge_member.result c.merge_member.ensures
    (λ made. ap object made ∙ sym (under_part (chars c.args.key.now) [] value model)
    ∙ ap (λ ps. merge (nest ps value) (object model)) (sym c.in-None.ensures.last))

pub merge_below-returns-in-Some : goal.merge_below-returns-in-Some
merge_below-returns-in-Some t c =
    let part = chars c.args.part.now in
    let inner = nest (dotted (chars c.args.rest.now)) (tree_of c.args.value.now) in
    let model = c.args.model.now.pairs in
    let place : place_of part model ≡ Some c.in-Some.at =
    sym c.place_of.ensures.place ∙ c.in-Some.is in
    on_ok c.merge_under.result c.merge_under.ensures
    (λ made. set_member part (merge inner) inner model c.in-Some.at c.value_mut.result.now
    c.merge_under.new.model place c.value_mut.ensures.value made)

pub merge_below-returns-in_ok-nested-in-None : goal.merge_below-returns-in_ok-nested-in-None
merge_below-returns-in_ok-nested-in-None t c =
    let part = chars c.args.part.now in
    let inner = nest (dotted (chars c.args.rest.now)) (tree_of c.args.value.now) in
    let model = c.args.model.now.pairs in
    let place : place_of part model ≡ None = sym c.place_of.ensures.place ∙ c.in-None.is in
    let made = c.in_ok-nested-in-None in
    on_ok c.push.result c.push.ensures.ok
    (λ added. ap entries_of added
    ∙ (λ i. entries_of (model ++ (c.in_ok-from_str-in-None.ensures i, made.field-0) ∷ []))
    ∙ add_member part (merge inner) inner model made.field-0 place made.ensures)
