use Rattle.std.proofs.Common.{◌≡◌, ◌≤◌, ◌<◌, Some, None, length, suc, [], ◌∷◌, ◌++◌, drop, sym, ap}
use Rattle.std.proofs.Common.{◌∙◌, arith, add-one}
use Rattle.std.proofs.Math.ListN.{drop_of_length-le}
use Rattle.std.specs.Str.{chars}
use Rattle.gtm_base.specs.Keys.{place_of}
use Rattle.gtm_data.proofs.Lists.{next}
use Rattle.gtm_data.specs.Tree.{tree_of, trees_of, entries_of}
use Rattle.data_layer.specs.Merge as spec
use Rattle.data_layer.proofs.Items.{merge_from, turn_from, end_from, set_item, add_item}
use Rattle.data_layer.proofs.Members.{set_member, add_member}
use Rattle.data_layer.proofs.Results.{on_ok}
use Rattle.data_layer.proofs.merging.+merge.Goals as goal

pub merge_item-returns-then-at-len-clause-merged :
    goal.merge_item-returns-then-at-len-clause-merged
merge_item-returns-then-at-len-clause-merged t c =
    let model = c.args.model.now in
    let item = tree_of c.args.item.now in
    let within : c.args.at < length model = rw (← c.len.ensures) c.if-at-len.true in
    on_ok c.merge.result c.merge.ensures
    (λ made. set_item (spec.merge item) item c.args.at model c.get_mut.result.now
    c.merge.new.model within c.get_mut.ensures.value made)

pub merge_item-returns-in_ok-copy-clause-merged : goal.merge_item-returns-in_ok-copy-clause-merged
merge_item-returns-in_ok-copy-clause-merged t c =
    let model = c.args.model.now in
    let item = tree_of c.args.item.now in
    let last : c.args.at ≡ length model =
    omega (arith, c.len.ensures, c.if-at-len.false, c.requires) in
    on_ok c.push.result c.push.ensures.ok
    (λ added. ap trees_of added
    ∙ add_item (spec.merge item) item c.args.at model c.in_ok-copy.field-0 last
    (ap tree_of c.in_ok-copy.ensures))

pub merge_items-loop-at-preserved : goal.merge_items-loop-at-preserved
merge_items-loop-at-preserved t c =
    let l = c.loop-at in
    let items = c.args.items.now in
    let x = c.item-item.result in
    let same : c.as_slice-item-items.result.now ≡ items = c.as_slice-item-items.ensures in
    let within : l.at < length items = rw (← same) c.loop-at-test.true in
    let left : drop l.at items ≡ x ∷ drop (suc l.at) items =
    next c.as_slice-item-items.result.now items l.at x same within c.item-item.is in
    record {
      within = omega (arith, c.in_ok-merge_item.ensures.within);
      rest =
          rw add-one
          (ap (merge_from (suc l.at) (trees_of (drop (suc l.at) items)))
          c.in_ok-merge_item.ensures.merged
          ∙ turn_from l.at (tree_of x) (trees_of (drop (suc l.at) items)) l.model l.invariant.within
          ∙ ap (λ rest. merge_from l.at (trees_of rest) (trees_of l.model)) (sym left)
          ∙ l.invariant.rest);
    }

pub merge_items-returns : goal.merge_items-returns
merge_items-returns t c =
    let l = c.loop-at in
    let items = c.args.items.now in
    let past : length items ≤ l.at = rw (← c.as_slice-item-items.ensures) c.loop-at-test.false in
    sym (end_from l.at (trees_of l.model))
    ∙ ap (λ rest. merge_from l.at (trees_of rest) (trees_of l.model))
    (sym (drop_of_length-le items past)) ∙ l.invariant.rest

pub merge_member-returns-in-Some : goal.merge_member-returns-in-Some
merge_member-returns-in-Some t c =
    let key = chars c.args.key.now in
    let model = c.args.model.now.pairs in
    let value = tree_of c.args.value.now in
    let place : place_of key model ≡ Some c.in-Some.at =
    sym c.place_of.ensures.place ∙ c.in-Some.is in
    on_ok c.merge.result c.merge.ensures
    (λ made. set_member key (spec.merge value) value model c.in-Some.at c.value_mut.result.now
    c.merge.new.model place c.value_mut.ensures.value made)

pub merge_member-returns-in_ok-copy-in-None : goal.merge_member-returns-in_ok-copy-in-None
merge_member-returns-in_ok-copy-in-None t c =
    let key = chars c.args.key.now in
    let model = c.args.model.now.pairs in
    let value = tree_of c.args.value.now in
    let place : place_of key model ≡ None = sym c.place_of.ensures.place ∙ c.in-None.is in
    let made = c.in_ok-copy-in-None in
    on_ok c.push.result c.push.ensures.ok
    (λ added. ap entries_of added
    ∙ (λ i. entries_of (model ++ (c.in_ok-from_str-in-None.ensures i, made.field-0) ∷ []))
    ∙ add_member key (spec.merge value) value model made.field-0 place
    (ap tree_of made.ensures))

pub merge_members-loop-member-preserved : goal.merge_members-loop-member-preserved
unfolding spec.merge_members
merge_members-loop-member-preserved t c =
    let l = c.loop-member in
    let members = c.args.members.now.pairs in
    let x = c.member-item.result in
    let same : c.as_slice-member-items.result.now ≡ members = c.as_slice-member-items.ensures in
    let within : l.member-index < length members = rw (← same) c.loop-member-test.true in
    let left : drop l.member-index members ≡ x ∷ drop (suc l.member-index) members =
    next c.as_slice-member-items.result.now members l.member-index x same within
    c.member-item.is in
    rw add-one
    (ap (spec.merge_members (entries_of (drop (suc l.member-index) members)))
    (c.in_ok-merge_member.ensures
    ∙ ap (λ key.
    spec.put key (spec.merge (tree_of x.1)) (tree_of x.1)
    (entries_of l.model.pairs)) c.as_str.ensures.chars)
    ∙ ap (λ rest. spec.merge_members (entries_of rest) (entries_of l.model.pairs)) (sym left)
    ∙ l.invariant)

pub merge_members-returns : goal.merge_members-returns
unfolding spec.merge_members
merge_members-returns t c =
    let l = c.loop-member in
    let members = c.args.members.now.pairs in
    let past : length members ≤ l.member-index =
    rw (← c.as_slice-member-items.ensures) c.loop-member-test.false in
    ap (λ rest. spec.merge_members (entries_of rest) (entries_of l.model.pairs))
    (sym (drop_of_length-le members past)) ∙ l.invariant
