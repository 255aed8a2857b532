use Rattle.std.proofs.Common.{◌≡◌, ◌<◌, ℕ, List, Bor, map, length, sym, ◌∙◌, slice_get, arith}
use Rattle.std.specs.Prelude.{Some}
use Rattle.std.specs.Str.{chars}
use Rattle.std.proofs.lemmas.List.{length-map}
use Rattle.text_places.proofs.FirstRepeats.{some_repeat, none_repeats, all_different, none_yet}
use Rattle.text_places.proofs.Indexing.{knows, indexes-new}
use Rattle.text_places.proofs.ListPlaces.{mapped_at}
use Rattle.text_places.proofs.Repeating.{is_repeat, is_no_repeat}
use Rattle.text_places.proofs.repeats.first_repeat.Goals as goal

abbrev content : Bor (List ℕ) → List ℕ
content text = text.now

pub returns-then-contains_key-clause-first : goal.returns-then-contains_key-clause-first
returns-then-contains_key-clause-first c =
    let l = c.loop-at in
    let texts = map content c.args.texts.now in
    let key = c.as_str-key.result.now in
    let here : slice_get texts l.at ≡ Some (chars key) =
    mapped_at content c.args.texts.now l.at c.index-texts-at.result (chars key) c.loop-at-test.true
    c.index-texts-at.is (sym c.as_str-key.ensures.chars) in
    let known =
    sym (knows l.seen texts l.at key l.invariant.seen c.as_str-key.utf8)
    ∙ sym c.contains_key.ensures ∙ c.if-contains_key.true in
    record { repeated = is_repeat texts l.at (chars key) here known; first = l.invariant.none_yet }

pub returns-then-contains_key-clause-computed : goal.returns-then-contains_key-clause-computed
returns-then-contains_key-clause-computed c =
    let texts = map content c.args.texts.now in
    sym ((some_repeat texts c.loop-at.at).1 (returns-then-contains_key-clause-first c))

pub loop-at-preserved : goal.loop-at-preserved
loop-at-preserved c =
    let l = c.loop-at in
    let texts = map content c.args.texts.now in
    let key = c.as_str-key.result.now in
    let here : slice_get texts l.at ≡ Some (chars key) =
    mapped_at content c.args.texts.now l.at c.index-texts-at.result (chars key) c.loop-at-test.true
    c.index-texts-at.is (sym c.as_str-key.ensures.chars) in
    let unknown =
    sym (knows l.seen texts l.at key l.invariant.seen c.as_str-key.utf8)
    ∙ sym c.contains_key.ensures ∙ c.if-contains_key.false in
    record {
      seen =
          indexes-new l.seen texts l.at key c.insert.new.self l.invariant.seen c.as_str-key.utf8
          here unknown c.in_ok-insert.ensures.updates;
      none_yet =
          none_yet texts l.at l.invariant.none_yet
          (is_no_repeat texts l.at (chars key) here unknown);
    }

pub returns-clause-first : goal.returns-clause-first
returns-clause-first c =
    let l = c.loop-at in
    let texts = map content c.args.texts.now in
    let within : (place : ℕ) → place < length texts → place < l.at =
    λ place lower. omega (arith, length-map c.args.texts.now content) in
    all_different texts (λ place lower. l.invariant.none_yet place (within place lower))

pub returns-clause-computed : goal.returns-clause-computed
returns-clause-computed c =
    let texts = map content c.args.texts.now in
    sym ((none_repeats texts).1 (returns-clause-first c))
