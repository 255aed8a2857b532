use Rattle.std.proofs.Common.{ap, ◌∙◌, take}
use Rattle.gtm_base.specs.Keys.{has_key, distinct_keys}
use Rattle.gtm_base.proofs.SameKeyed.{same_keyed}
use Rattle.gtm_data.proofs.Lists.{key_is_new, take_all}
use Rattle.gtm_data.proofs.copying.+copy.Goals as goal

pub copy_members-push-requires : goal.copy_members-push-requires
copy_members-push-requires t c =
    let l = c.loop-member in
    let all = c.as_slice-member-items in
    let new =
    key_is_new all.result.now l.member-index c.member-item.result c.loop-member-test.true
    c.member-item.is (ap distinct_keys all.ensures ∙ c.args.members.now.distinct) in
    ap (has_key c.in_ok-key.key) l.invariant
    ∙ (λ i. has_key (c.in_ok-key.ensures i) (take l.member-index all.result.now)) ∙ new

pub copy_members-returns : goal.copy_members-returns
copy_members-returns t c =
    let l = c.loop-member in
    let all = c.as_slice-member-items in
    same_keyed _ _
    (l.invariant ∙ take_all l.member-index all.result.now c.loop-member-test.false
    ∙ all.ensures)
