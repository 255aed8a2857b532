-- A text cut into pieces, name by name.
use Rattle.std.proofs.Common.{◌≡◌, ℕ, zero, suc, ◌<◌, ◌≤◌, List, [], ◌∷◌, ◌++◌, length, Option}
use Rattle.std.proofs.Common.{Some, None, option_map, refl, ap, sym, ◌∙◌, subst, arith}
use Rattle.std.proofs.Common.{length-append}
use Rattle.std.specs.Prelude.{option_and_then}
use Rattle.std.specs.Option.{option_map_or}
use Rattle.std.proofs.lemmas.Option.{none-some}
use Rattle.export_names.specs.Cut.{WrittenPiece, name, around_twice, first_name, literal_of}
use Rattle.export_names.specs.Cut.{cut_within, cut}
use Rattle.export_names.proofs.Twice.{around_parts, same_within}

-- a text by its first name
abbrev pub IsAround : List ℕ → List ℕ × List ℕ × List ℕ → Type 0
IsAround text found = text ≡ found.0 ++ 123 ∷ 123 ∷ (found.1 ++ 125 ∷ 125 ∷ found.2)

closed_parts : (text : List ℕ) (opened : List ℕ × List ℕ) → text ≡ opened.0 ++ 123 ∷ 123 ∷ opened.1
    → (o : Option (List ℕ × List ℕ)) → o ≡ around_twice 125 opened.1
    → (found : List ℕ × List ℕ × List ℕ)
    → option_map (λ closed. (opened.0, closed.0, closed.1)) o ≡ Some found → IsAround text found
closed_parts text opened whole None is found e = absurd (none-some found e)
closed_parts text opened whole (Some closed) is found e =
    subst (IsAround text) (same_within _ found e)
    (whole ∙ ap (λ r. opened.0 ++ 123 ∷ 123 ∷ r) (around_parts 125 opened.1 closed (sym is)))

opened_parts : (text : List ℕ) (o : Option (List ℕ × List ℕ)) → o ≡ around_twice 123 text
    → (found : List ℕ × List ℕ × List ℕ)
    → option_and_then
    (λ opened.
    option_map (λ closed. (opened.0, closed.0, closed.1))
    (around_twice 125 opened.1)) o ≡ Some found → IsAround text found
opened_parts text None is found e = absurd (none-some found e)
opened_parts text (Some opened) is found e =
    closed_parts text opened (around_parts 123 text opened (sym is)) (around_twice 125 opened.1)
    refl found e

-- what is found stands around a name
pub first_parts : (text : List ℕ) (found : List ℕ × List ℕ × List ℕ) → first_name text ≡ Some found
    → IsAround text found
unfolding first_name
first_parts text found e = opened_parts text (around_twice 123 text) refl found e

-- what is behind a name is shorter
pub shorter : (text : List ℕ) (found : List ℕ × List ℕ × List ℕ) → first_name text ≡ Some found
    → length found.2 < length text
shorter text found e =
    omega (
      arith,
      ap length (first_parts text found e),
      length-append found.0 (123 ∷ 123 ∷ (found.1 ++ 125 ∷ 125 ∷ found.2)),
      length-append found.1 (125 ∷ 125 ∷ found.2),
    )

-- the pieces from the first name on
abbrev from_name : ℕ → List ℕ → Option (List ℕ × List ℕ × List ℕ) → List WrittenPiece
from_name names text o =
    option_map_or (λ found. literal_of found.0 ++ name found.1 ∷ cut_within names found.2) o
    (literal_of text)

enough_from : (n m : ℕ) (text : List ℕ) (o : Option (List ℕ × List ℕ × List ℕ))
    → o ≡ first_name text → length text ≤ suc n → length text ≤ suc m
    → ((rest : List ℕ) → length rest ≤ n → length rest ≤ m → cut_within n rest ≡ cut_within m rest)
    → from_name n text o ≡ from_name m text o
enough_from n m text None is below within same = refl
enough_from n m text (Some found) is below within same =
    let less = shorter text found (sym is) in
    ap (λ rest. literal_of found.0 ++ name found.1 ∷ rest)
    (same found.2 (omega arith) (omega arith))

first_of_empty : first_name [] ≡ None
unfolding first_name
first_of_empty = refl

-- all numbers of names that are great enough give the same
enough : (n m : ℕ) (text : List ℕ) → length text ≤ n → length text ≤ m
    → cut_within n text ≡ cut_within m text
unfolding cut_within
enough zero zero text below within = refl
enough zero (suc m) [] below within = ap (from_name m []) (sym first_of_empty)
enough zero (suc m) (c ∷ text) below within = absurd (omega arith)
enough (suc n) zero [] below within = ap (from_name n []) first_of_empty
enough (suc n) zero (c ∷ text) below within = absurd (omega arith)
enough (suc n) (suc m) text below within =
    enough_from n m text (first_name text) refl below within (enough n m)

more : (n : ℕ) (text : List ℕ) → cut_within (suc n) text ≡ from_name n text (first_name text)
unfolding cut_within
more n text = refl

-- the pieces of a text with a name
pub cut_named : (text : List ℕ) (found : List ℕ × List ℕ × List ℕ) → first_name text ≡ Some found
    → cut text ≡ literal_of found.0 ++ name found.1 ∷ cut found.2
unfolding cut
cut_named text found e =
    let less = shorter text found e in
    enough (length text) (suc (length text)) text (omega arith) (omega arith)
    ∙ more (length text) text
    ∙ ap (from_name (length text) text) e
    ∙ ap (λ rest. literal_of found.0 ++ name found.1 ∷ rest)
    (enough (length text) (length found.2) found.2 (omega arith) (omega arith))

-- the pieces of a text with none
pub cut_plain : (text : List ℕ) → first_name text ≡ None → cut text ≡ literal_of text
unfolding cut
cut_plain text e =
    enough (length text) (suc (length text)) text (omega arith) (omega arith)
    ∙ more (length text) text ∙ ap (from_name (length text) text) e
