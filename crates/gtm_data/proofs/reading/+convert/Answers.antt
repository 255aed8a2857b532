use Rattle.std.proofs.Common.{rules, ◌≡◌, [], ◌∷◌, ◌++◌, map, sym, ap, ◌∙◌, subst, append_assoc}
use Rattle.std.specs.List.Sorted.{IsStrictlySortedBy}
use Rattle.std.specs.Map.{keys_of}
use Rattle.std.specs.String.{string_cmp}
use Rattle.std.specs.Str.{chars}
use Rattle.gtm_base.specs.Keys.{has_key}
use Rattle.serde_json.specs.View.{view, items_view}
use Rattle.serde_json.proofs.Views.{Entry}
use Rattle.gtm_data.specs.Tree.{trees, entries_of}
use Rattle.gtm_data.specs.Plain.{tree_in, trees_in, entries_in}
use Rattle.gtm_data.proofs.Converted.{trees_in-map, pushed, new_key}
use Rattle.gtm_data.proofs.Lists.{take_all}
use Rattle.gtm_data.proofs.reading.+convert.Goals as goal

pub convert_items-returns : goal.convert_items-returns
convert_items-returns t c =
    let got = c.deref-item-items.result.now in
    ap trees (c.loop-item.invariant
    ∙ ap (map (λ v. tree_in (view v)))
    (take_all c.loop-item.item-index got c.loop-item-test.false)) ∙ trees_in-map got ∙ ap (λ vs.
    trees_in (items_view vs)) c.deref-item-items.ensures.value

pub convert_members-loop-key-init : goal.convert_members-loop-key-init
unfolding entries_in
convert_members-loop-key-init t c = ([], search rules, ap entries_of c.new-made.ensures)

pub convert_members-push-requires : goal.convert_members-push-requires
convert_members-push-requires t c =
    let l = c.loop-key in
    let done = l.invariant.0 in
    let e : Entry = (c.in-Some.key.now, c.in-Some.member.now) in
    let left = c.next.new.self in
    let all : c.args.members.now.entries ≡ done ++ e ∷ left =
    l.invariant.1 ∙ ap (λ es. done ++ es) c.in-Some.ensures.steps in
    let sorted =
    subst (λ es. IsStrictlySortedBy string_cmp (keys_of es)) all
    c.iter-key-items.ensures.ordered in
    ap (λ key. has_key key l.made.pairs) (c.in_ok-name.ensures ∙ ap chars c.as_str.ensures.value)
    ∙ new_key l.made.pairs done e left l.invariant.2 sorted

pub convert_members-loop-key-preserved : goal.convert_members-loop-key-preserved
convert_members-loop-key-preserved t c =
    let l = c.loop-key in
    let done = l.invariant.0 in
    let e : Entry = (c.in-Some.key.now, c.in-Some.member.now) in
    let left = c.next.new.self in
    let all : c.args.members.now.entries ≡ done ++ e ∷ left =
    l.invariant.1 ∙ ap (λ es. done ++ es) c.in-Some.ensures.steps in (
      done ++ e ∷ [],
      all ∙ sym (append_assoc done (e ∷ []) left),
      ap entries_of c.in_ok-push.ensures.ok
          ∙ pushed l.made.pairs c.in_ok-name.name c.in_ok-convert.field-0 done e l.invariant.2
          (c.in_ok-name.ensures ∙ ap chars c.as_str.ensures.value) c.in_ok-convert.ensures,
    )
