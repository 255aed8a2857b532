use Rattle.std.proofs.Common.{◌≡◌, Some, None, [], ◌∷◌, ◌++◌, sym, ap, ◌∙◌}
use Rattle.gtm_base.specs.Keys.{place_of}
use Rattle.gtm_data.proofs.Levels.{tree_of-Map}
use Rattle.gtm_data.specs.Tree.{tree_of, entries_of, object}
use Rattle.data_layer.specs.Layer.{nest}
use Rattle.data_layer.proofs.Members.{set_member, add_member}
use Rattle.data_layer.proofs.Results.{on_ok}
use Rattle.page_world.specs.Globals as spec
use Rattle.page_world.proofs.Overwrites.{set_at-other}
use Rattle.page_world.proofs.setting.+set.Goals as goal

pub set_below-returns-in-Some : goal.set_below-returns-in-Some
set_below-returns-in-Some t c =
    let part = c.args.part.now in
    let rest = c.args.rest.now in
    on_ok c.set_member.result c.set_member.ensures
    (λ made. tree_of-Map c.set_member.new.members ∙ ap object made
    ∙ sym (ap (spec.set_at (part ∷ rest) (tree_of c.args.value))
    (ap tree_of c.in-Some.ensures.members ∙ tree_of-Map c.in-Some.members.now)))

pub set_below-returns-in-None : goal.set_below-returns-in-None
set_below-returns-in-None t c =
    on_ok c.replace.result c.replace.ensures
    (λ made. made
    ∙ sym (set_at-other c.args.part.now c.args.rest.now (tree_of c.args.value)
    (tree_of c.args.tree.now) c.in-None.ensures.none))

pub set_member-returns-in-Some : goal.set_member-returns-in-Some
set_member-returns-in-Some t c =
    let part = c.args.part.now in
    let rest = c.args.rest.now in
    let value = tree_of c.args.value in
    let members = c.args.members.now.pairs in
    let place : place_of part members ≡ Some c.in-Some.at =
    ap (λ key. place_of key members) (sym c.as_str.ensures.chars) ∙ sym c.place_of.ensures.place
    ∙ c.in-Some.is in
    on_ok c.set_at.result c.set_at.ensures
    (λ made. set_member part (spec.set_at rest value) (nest rest value) members c.in-Some.at
    c.value_mut.result.now c.set_at.new.tree place c.value_mut.ensures.value made)

pub set_member-returns-in_ok-nested-in-None : goal.set_member-returns-in_ok-nested-in-None
set_member-returns-in_ok-nested-in-None t c =
    let part = c.args.part.now in
    let rest = c.args.rest.now in
    let value = tree_of c.args.value in
    let members = c.args.members.now.pairs in
    let place : place_of part members ≡ None =
    ap (λ key. place_of key members) (sym c.as_str.ensures.chars) ∙ sym c.place_of.ensures.place
    ∙ c.in-None.is in
    let made = c.in_ok-nested-in-None in
    on_ok c.push.result c.push.ensures.ok
    (λ added. ap entries_of added
    ∙ (λ i. entries_of (members ++ (c.in_ok-copy-in-None.ensures i, made.field-0) ∷ []))
    ∙ add_member part (spec.set_at rest value) (nest rest value) members made.field-0 place
    made.ensures)
