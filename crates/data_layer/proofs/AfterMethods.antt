-- A List after a method, beside the trees that its items stand for.
use Rattle.std.proofs.Common.{◌≡◌, ◌-◌, List, [], ◌∷◌, ◌++◌, length, take, reverse, map, refl, sym}
use Rattle.std.proofs.Common.{ap, ◌∙◌}
use Rattle.std.proofs.lemmas.List.{take-map, map-append}
use Rattle.std.proofs.lemmas.Grind.{reverse_onto}
use Rattle.data_layer.proofs.Parts.{length_map}

module _ {A B : Type 0} (f : A → B) where
  pub map-all_but_last : (xs : List A)
      → map f (take (length xs - 1) xs) ≡ take (length (map f xs) - 1) (map f xs)
  map-all_but_last xs =
      sym (take-map f (length xs - 1) xs)
      ∙ ap (λ n. take (n - 1) (map f xs)) (sym (length_map f xs))

  pub map-reverse : (xs : List A) → map f (reverse xs) ≡ reverse (map f xs)
  map-reverse [] = refl
  map-reverse (x ∷ xs) =
      ap (map f) (reverse_onto xs x [])
      ∙ map-append f (reverse xs) (x ∷ [])
      ∙ ap (λ ys. ys ++ f x ∷ []) (map-reverse xs)
      ∙ sym (reverse_onto (map f xs) (f x) [])

pub ruleset trees_after_methods = (map-all_but_last, map-reverse)
