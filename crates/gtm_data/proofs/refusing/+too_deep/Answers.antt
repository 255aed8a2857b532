use Rattle.std.proofs.Common.{◌≡◌, [], ◌∷◌, ◌++◌, drop, suc, ◌+◌, add-one, refl, sym, ap, ◌∙◌}
use Rattle.std.proofs.Common.{string_bytes}
use Rattle.std.proofs.Math.ListN.{drop_of_length-le}
use Rattle.std.specs.Str.{chars}
use Rattle.serde_json.specs.View.{view, items_view, members_view}
use Rattle.serde_json.proofs.Views.{Entry}
use Rattle.gtm_data.specs.Plain.{key_step, item_nodes, member_nodes, first_path, is_nest_below}
use Rattle.gtm_data.proofs.Lists.{next}
use Rattle.gtm_data.proofs.Nodes.{item_told, item_passed, member_told, member_passed}
use Rattle.gtm_data.proofs.Nodes.{is_nest_below-inside}
use Rattle.gtm_data.proofs.refusing.+too_deep.Goals as goal

pub items_too_deep-returns-in-Some : goal.items_too_deep-returns-in-Some
items_too_deep-returns-in-Some t c =
    let l = c.loop-at in
    let items = c.deref-item-items.result.now in
    let item = c.item-item.result in
    let left = items_view (drop (suc l.at) items) in
    let rest : drop l.at items ≡ item ∷ drop (suc l.at) items =
    next items items l.at item refl c.loop-at-test.true c.item-item.is in
    let within = is_nest_below c.args.allowed in
    let here = is_nest_below (c.args.allowed + 1) in
    let same = is_nest_below-inside c.args.allowed (c.args.allowed + 1) refl in
    item_told within here same l.at (view item) left c.in-Some.path c.in_ok-from_index.field-0
    (sym c.in-Some.is ∙ c.in_ok-path.ensures) c.in_ok-from_index.ensures
    ∙ ap (λ vs. first_path here (item_nodes l.at (items_view vs))) (sym rest) ∙ l.invariant

pub items_too_deep-loop-at-preserved : goal.items_too_deep-loop-at-preserved
items_too_deep-loop-at-preserved t c =
    let l = c.loop-at in
    let items = c.deref-item-items.result.now in
    let item = c.item-item.result in
    let left = items_view (drop (suc l.at) items) in
    let rest : drop l.at items ≡ item ∷ drop (suc l.at) items =
    next items items l.at item refl c.loop-at-test.true c.item-item.is in
    let within = is_nest_below c.args.allowed in
    let here = is_nest_below (c.args.allowed + 1) in
    let same = is_nest_below-inside c.args.allowed (c.args.allowed + 1) refl in
    ap (λ n. first_path here (item_nodes (l.at + 1) (items_view (drop n items)))) (add-one l.at)
    ∙ item_passed within here same l.at (view item) left
    (sym c.in_default.is ∙ c.in_ok-path.ensures)
    ∙ ap (λ vs. first_path here (item_nodes l.at (items_view vs))) (sym rest) ∙ l.invariant

pub items_too_deep-returns : goal.items_too_deep-returns
unfolding item_nodes
items_too_deep-returns t c =
    let l = c.loop-at in
    let items = c.deref-item-items.result.now in
    let past : drop l.at items ≡ [] = drop_of_length-le items c.loop-at-test.false in
    let here = is_nest_below (c.args.allowed + 1) in
    sym (ap (λ vs. first_path here (item_nodes l.at (items_view vs))) past) ∙ l.invariant

pub members_too_deep-returns-in-Some-2 : goal.members_too_deep-returns-in-Some-2
members_too_deep-returns-in-Some-2 t c =
    let l = c.loop-key in
    let e : Entry = (c.in-Some.key.now, c.in-Some.member.now) in
    let left = c.next.new.self in
    let rest : l.key-iterator ≡ e ∷ left = c.in-Some.ensures.steps in
    let made =
    c.in_ok-from_key.ensures
    ∙ ap (λ key. key_step (chars key) ++ c.in-Some-2.path) c.as_str.ensures.value in
    let within = is_nest_below c.args.allowed in
    let here = is_nest_below (c.args.allowed + 1) in
    let same = is_nest_below-inside c.args.allowed (c.args.allowed + 1) refl in
    member_told within here same (string_bytes e.0) (view e.1) (members_view left) c.in-Some-2.path
    c.in_ok-from_key.field-0 (sym c.in-Some-2.is ∙ c.in_ok-path.ensures) made
    ∙ ap (λ es. first_path here (member_nodes (members_view es))) (sym rest) ∙ l.invariant

pub members_too_deep-loop-key-preserved : goal.members_too_deep-loop-key-preserved
members_too_deep-loop-key-preserved t c =
    let l = c.loop-key in
    let e : Entry = (c.in-Some.key.now, c.in-Some.member.now) in
    let left = c.next.new.self in
    let rest : l.key-iterator ≡ e ∷ left = c.in-Some.ensures.steps in
    let within = is_nest_below c.args.allowed in
    let here = is_nest_below (c.args.allowed + 1) in
    let same = is_nest_below-inside c.args.allowed (c.args.allowed + 1) refl in
    member_passed within here same (string_bytes e.0) (view e.1) (members_view left)
    (sym c.in_default.is ∙ c.in_ok-path.ensures)
    ∙ ap (λ es. first_path here (member_nodes (members_view es))) (sym rest) ∙ l.invariant

pub members_too_deep-returns : goal.members_too_deep-returns
unfolding member_nodes
members_too_deep-returns t c =
    let l = c.loop-key in
    let rest : l.key-iterator ≡ [] = c.in-None.ensures.steps.0 in
    let here = is_nest_below (c.args.allowed + 1) in
    sym (ap (λ es. first_path here (member_nodes (members_view es))) rest) ∙ l.invariant
