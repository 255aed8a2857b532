use Rattle.std.proofs.Common.{◌≡◌, ℕ, ◌+◌, List, Bor, map, take, sym, subst, ◌∙◌, slice_get}
use Rattle.std.specs.Prelude.{Some}
use Rattle.std.specs.Str.{chars}
use Rattle.text_places.specs.Indexed.{Indexes}
use Rattle.text_places.proofs.Indexing.{knows, indexes-new, indexes-old}
use Rattle.text_places.proofs.ListPlaces.{mapped_at}
use Rattle.text_places.proofs.places.first_places.Goals as goal
use Rattle.text_places.proofs.places.first_places.Goals.{then-not-contains_key+in_ok-insert}
use Rattle.text_places.proofs.places.first_places.Goals.{else-not-contains_key}

abbrev content : Bor (List ℕ) → List ℕ
content text = text.now

pub loop-at-preserved : goal.loop-at-preserved
loop-at-preserved c =
    let l = c.loop-at in
    let texts = map content c.args.texts.now in
    let key = c.as_str-key.result.now in
    let here : slice_get texts l.at ≡ Some (chars key) =
    mapped_at content c.args.texts.now l.at c.index-texts-at.result (chars key) c.loop-at-test.true
    c.index-texts-at.is (sym c.as_str-key.ensures.chars) in
    let known =
    sym (knows l.first texts l.at key l.invariant c.as_str-key.utf8)
    ∙ sym c.contains_key.ensures in
    elim c.if-not-contains_key.branch [
      | then-not-contains_key+in_ok-insert w ↦
          subst (λ first. Indexes first (take (l.at + 1) texts)) (sym w.first-is)
          (indexes-new l.first texts l.at key w.insert.new.self l.invariant c.as_str-key.utf8 here
          (known ∙ w.if-not-contains_key.true) w.in_ok-insert.ensures.updates)
      | else-not-contains_key w ↦
          subst (λ first. Indexes first (take (l.at + 1) texts)) (sym w.first-is)
          (indexes-old l.first texts l.at key l.invariant here
          (known ∙ w.if-not-contains_key.false))
    ]
