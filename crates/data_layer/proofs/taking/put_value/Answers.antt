use Rattle.std.proofs.Common.{◌≡◌, Some, None, [], ◌∷◌, ◌++◌, sym, ap, ◌∙◌}
use Rattle.gtm_base.specs.Keys.{place_of}
use Rattle.gtm_data.specs.Tree.{tree_of, entries_of}
use Rattle.data_layer.proofs.Members.{set_member, add_member}
use Rattle.data_layer.proofs.Results.{on_ok}
use Rattle.data_layer.proofs.taking.put_value.Goals as goal

pub returns-in-Some : goal.returns-in-Some
returns-in-Some c =
    let key = c.args.key.now in
    let values = c.args.values.now.pairs in
    let value = tree_of c.args.value.now in
    let place : place_of key values ≡ Some c.in-Some.at =
    ap (λ k. place_of k values) (sym c.as_str.ensures.chars) ∙ sym c.place_of.ensures.place
    ∙ c.in-Some.is in
    on_ok c.overwrite.result c.overwrite.ensures
    (λ made. set_member key (λ _. value) value values c.in-Some.at c.value_mut.result.now
    c.overwrite.new.model place c.value_mut.ensures.value (ap tree_of made))

pub returns-in_ok-copy-in-None-2 : goal.returns-in_ok-copy-in-None-2
returns-in_ok-copy-in-None-2 c =
    let key = c.args.key.now in
    let values = c.args.values.now.pairs in
    let value = tree_of c.args.value.now in
    let place : place_of key values ≡ None =
    ap (λ k. place_of k values) (sym c.as_str.ensures.chars) ∙ sym c.place_of.ensures.place
    ∙ c.in-None.is in
    let made = c.in_ok-copy-in-None-2 in
    on_ok c.push.result c.push.ensures.ok
    (λ added. ap entries_of added
    ∙ (λ i. entries_of (values ++ (c.in_ok-copy-in-None.ensures i, made.field-0) ∷ []))
    ∙ add_member key (λ _. value) value values made.field-0 place (ap tree_of made.ensures))
