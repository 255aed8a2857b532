use Rattle.std.proofs.Common.{◌≡◌, ◌++◌, ◌∙◌, ap, sym, drop, ◌+◌, ◌<◌, length, [], ◌∷◌, get_or}
use Rattle.std.proofs.Common.{ℕ, List, map, refl, subst}
use Rattle.export_container.specs.References.{is_place, firsts_from}
use Rattle.text_places.specs.Places.{place_of}
use Rattle.export_container.proofs.Firsts.{first_turn, later_turn}
use Rattle.export_container.proofs.references.each_once.Goals as goal
use Rattle.export_container.proofs.references.each_once.Goals.{then-stands_first+in_ok-copy+in_ok-push}
use Rattle.export_container.proofs.references.each_once.Goals.{else-stands_first}

themselves : (texts : List (List ℕ)) → map (λ text. text) texts ≡ texts
themselves [] = refl
themselves (text ∷ texts) = ap (λ rest. text ∷ rest) (themselves texts)

pub loop-at-preserved : goal.loop-at-preserved
loop-at-preserved c =
    let all = c.args.texts.now in
    let at = c.loop-at.at in
    let text = c.text-item.result in
    let items_are : c.as_slice-text-items.result.now ≡ all = c.as_slice-text-items.ensures in
    let within : at < length all =
    subst (λ items. at < length items) items_are c.loop-at-test.true in
    let here : get_or all at text ≡ text =
    sym (c.text-item.is ∙ ap (λ items. get_or items at text) items_are) in
    let places_are : c.in_ok-places.places ≡ all =
    c.in_ok-places.ensures ∙ c.in_ok-texts_of.ensures ∙ themselves c.as_slice.result.now
    ∙ c.as_slice.ensures in
    let known =
    ap (λ texts. is_place at (place_of text texts)) (sym places_are) ∙ sym c.stands_first.ensures in
    elim c.if-stands_first.branch [
      | then-stands_first+in_ok-copy+in_ok-push w ↦ ap
          (λ made. made ++ firsts_from all (at + 1) (drop (at + 1) all))
          (w.made-is ∙ w.in_ok-push.ensures.ok
          ∙ ap (λ t. c.loop-at.made ++ t ∷ []) w.in_ok-copy.ensures)
          ∙ first_turn all c.loop-at.made at text within here (known ∙ w.if-stands_first.true)
          ∙ c.loop-at.invariant
      | else-stands_first w ↦ ap (λ made. made ++ firsts_from all (at + 1) (drop (at + 1) all))
          w.made-is
          ∙ later_turn all c.loop-at.made at text within here (known ∙ w.if-stands_first.false)
          ∙ c.loop-at.invariant
    ]
