use Rattle.std.proofs.Common.{◌≡◌, ◌<◌, ◌≤◌, length, drop, suc, add-one, sym, ap, ◌∙◌, ◌∷◌}
use Rattle.std.proofs.Math.ListN.{drop_of_length-le}
use Rattle.gtm_data.specs.Paths.{dotted}
use Rattle.gtm_data.proofs.Lists.{next}
use Rattle.gtm_data.specs.Tree.{tree_of, entries_of}
use Rattle.data_layer.specs.Layer.{after_members, version_one_after, nest}
use Rattle.data_layer.specs.Merge.{merge}
use Rattle.data_layer.proofs.taking.take_members.Goals as goal

pub loop-member-preserved : goal.loop-member-preserved
unfolding after_members version_one_after
loop-member-preserved c =
    let l = c.loop-member in
    let members = c.args.members.now.pairs in
    let x = c.member-item.result in
    let same : c.as_slice-member-items.result.now ≡ members = c.as_slice-member-items.ensures in
    let within : l.member-index < length members = rw (← same) c.loop-member-test.true in
    let left : drop l.member-index members ≡ x ∷ drop (suc l.member-index) members =
    next c.as_slice-member-items.result.now members l.member-index x same within
    c.member-item.is in
    let later = entries_of (drop (suc l.member-index) members) in
    record {
      merged =
          rw add-one
          (ap (after_members later)
          (c.in_ok-merge_under.ensures
          ∙ ap (λ k. merge (nest (dotted k) (tree_of x.1)) (tree_of l.model))
          c.as_str.ensures.chars)
          ∙ ap (λ rest. after_members (entries_of rest) (tree_of l.model)) (sym left)
          ∙ l.invariant.merged);
      put =
          rw add-one
          (ap (version_one_after later) c.in_ok-put_value.ensures
          ∙ ap (λ rest. version_one_after (entries_of rest) (entries_of l.version_one.pairs))
          (sym left)
          ∙ l.invariant.put);
    }

pub returns-clause-merged : goal.returns-clause-merged
unfolding after_members
returns-clause-merged c =
    let l = c.loop-member in
    let members = c.args.members.now.pairs in
    let past : length members ≤ l.member-index =
    rw (← c.as_slice-member-items.ensures) c.loop-member-test.false in
    ap (λ rest. after_members (entries_of rest) (tree_of l.model))
    (sym (drop_of_length-le members past)) ∙ l.invariant.merged

pub returns-clause-put : goal.returns-clause-put
unfolding version_one_after
returns-clause-put c =
    let l = c.loop-member in
    let members = c.args.members.now.pairs in
    let past : length members ≤ l.member-index =
    rw (← c.as_slice-member-items.ensures) c.loop-member-test.false in
    ap (λ rest. version_one_after (entries_of rest) (entries_of l.version_one.pairs))
    (sym (drop_of_length-le members past)) ∙ l.invariant.put
