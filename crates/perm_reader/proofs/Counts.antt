-- Two lists of values are as long as their trees are many.
use Rattle.std.proofs.Common.{◌≡◌, ◌∙◌, ℕ, suc, List, [], ◌∷◌, length, refl}
use Rattle.std.proofs.Common.{arith, nat_eq}
use Rattle.std.proofs.lemmas.Bool.Decides.{nat_tests}
use Rattle.gtm_data.specs.Tree.{trees_of}
use Rattle.gtm_data.specs.declared.data.Data.{Data}
use Rattle.perm_reader.specs.Values.{same_count}

sucs_equal : (m n : ℕ) → nat_eq (suc m) (suc n) ≡ nat_eq m n
sucs_equal m n = grind (arith, nat_tests)

pub counts : (xs ys : List Data)
    → nat_eq (length xs) (length ys) ≡ same_count (trees_of xs) (trees_of ys)
counts [] [] = refl
counts [] (y ∷ ys) = grind (arith, nat_tests)
counts (x ∷ xs) [] = grind (arith, nat_tests)
counts (x ∷ xs) (y ∷ ys) = sucs_equal (length xs) (length ys) ∙ counts xs ys
