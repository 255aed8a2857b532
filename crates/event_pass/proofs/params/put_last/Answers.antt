use Rattle.std.proofs.Common.{◌≡◌, Some, None, [], ◌∷◌, ◌++◌, refl, sym, ap, ◌∙◌}
use Rattle.data_layer.proofs.Members.{set_member, add_member}
use Rattle.data_layer.proofs.Results.{on_ok}
use Rattle.gtm_base.specs.Keys.{place_of}
use Rattle.gtm_data.specs.Tree.{tree_of, entries_of}
use Rattle.event_pass.proofs.params.put_last.Goals as goal
use Rattle.variable_kinds.specs.declared.members.Choice.TheVariants.{Last}
use Rattle.variable_kinds.specs.Resolved.{chosen}

pub returns-in-Some : goal.returns-in-Some
returns-in-Some c =
    let key = c.args.key.now in
    let members = c.args.members.now.pairs in
    let value = tree_of c.args.value in
    let place : place_of key members ≡ Some c.in-Some.at =
    ap (λ k. place_of k members) (sym c.as_str.ensures.chars) ∙ sym c.place_of.ensures.place
    ∙ c.in-Some.is in
    set_member key (chosen Last value) value members c.in-Some.at
    c.value_mut.result.now c.fill.new.place place c.value_mut.ensures.value c.fill.ensures

pub returns-in_ok-copy-in-None : goal.returns-in_ok-copy-in-None
returns-in_ok-copy-in-None c =
    let key = c.args.key.now in
    let members = c.args.members.now.pairs in
    let value = tree_of c.args.value in
    let place : place_of key members ≡ None =
    ap (λ k. place_of k members) (sym c.as_str.ensures.chars) ∙ sym c.place_of.ensures.place
    ∙ c.in-None.is in
    on_ok c.push.result c.push.ensures.ok
    (λ added. ap entries_of added
    ∙ (λ i. entries_of (members ++ (c.in_ok-copy-in-None.ensures i, c.args.value) ∷ []))
    ∙ add_member key (chosen Last value) value members c.args.value place refl)
