-- The texts of a list that stand first, turn by turn.
use Rattle.std.proofs.Common.{◌≡◌, ℕ, suc, ◌+◌, ◌<◌, List, [], ◌∷◌, ◌++◌, length, get_or, drop}
use Rattle.std.proofs.Common.{Bool, true, false, ap, sym, ◌∙◌, add-one, append_assoc}
use Rattle.std.proofs.Math.Seq.{drop-cons}
use Rattle.std.specs.Prelude.{if◌then◌else◌}
use Rattle.text_places.specs.Places.{place_of}
use Rattle.export_container.specs.References.{is_place, firsts_from}

module _ (all made : List (List ℕ)) (at : ℕ) (text : List ℕ) (within : at < length all)
    (here : get_or all at text ≡ text) where
  -- what is left from a place on is its text and what is left from the next on
  left : drop at all ≡ text ∷ drop (at + 1) all
  left = drop-cons all at text within ∙ (λ i. here i ∷ drop (sym (add-one at) i) all)

  -- the texts that stand first from a place on, by whether its own does
  by_test : (test : Bool) → is_place at (place_of text all) ≡ test
      → firsts_from all at (drop at all)
      ≡ (if test then text ∷ firsts_from all (at + 1) (drop (at + 1) all)
      else firsts_from all (at + 1) (drop (at + 1) all))
  by_test test is =
      let rest = drop (at + 1) all in
      ap (firsts_from all at) left
      ∙ ap (λ b. if b then text ∷ firsts_from all (suc at) rest else firsts_from all (suc at) rest)
      is
      ∙ ap (λ n. if test then text ∷ firsts_from all n rest else firsts_from all n rest)
      (sym (add-one at))

  -- where the text of a place stands first, it is put behind what was made
  pub first_turn : is_place at (place_of text all) ≡ true
      → (made ++ text ∷ []) ++ firsts_from all (at + 1) (drop (at + 1) all)
      ≡ made ++ firsts_from all at (drop at all)
  first_turn test =
      append_assoc made (text ∷ []) (firsts_from all (at + 1) (drop (at + 1) all))
      ∙ ap (λ r. made ++ r) (sym (by_test true test))

  -- where it does not, nothing is
  pub later_turn : is_place at (place_of text all) ≡ false
      → made ++ firsts_from all (at + 1) (drop (at + 1) all)
      ≡ made ++ firsts_from all at (drop at all)
  later_turn test = ap (λ r. made ++ r) (sym (by_test false test))
