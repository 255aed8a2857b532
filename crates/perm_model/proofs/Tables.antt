-- What is found in a table by its name.
use Rattle.std.proofs.Common.{◌≡◌, ℕ, zero, suc, ◌+◌, ◌-◌, ◌<◌, ◌≤◌, ◌&&◌, List, [], ◌∷◌}
use Rattle.std.proofs.Common.{length, Bool, true, false, Option, Some, None, cond, refl, sym, ap}
use Rattle.std.proofs.Common.{arith, get_or, subst}
use Rattle.std.specs.Prelude.{◌==◌}
use Rattle.std.specs.List.{find, position_from}
use Rattle.std.proofs.lemmas.Bool.Decides.{nat_tests}

-- what was found passes the test
pub find_passes : {X : Type 0} (test : X → Bool) (xs : List X) (found : X)
    → find test xs ≡ Some found → test found ≡ true
find_passes test [] found is = cc
find_passes {X} test (x ∷ xs) found is =
    elim (test x) as
    (λ b. test x ≡ b → cond b (Some x) (find test xs) ≡ Some found → test found ≡ true) [
      | true ↦ λ passes is.
          let same : x ≡ found = cc in subst (λ (y : X). test y ≡ true) same passes
      | false ↦ λ fails is. find_passes test xs found is
    ] refl is

-- where it was found
pub record IsFoundAt {X : Type 0} (test : X → Bool) (i : ℕ) (xs : List X) (at : ℕ) : Type 0 where
  pub from : i ≤ at
  pub within : at < i + length xs
  pub passes : (d : X) → test (get_or xs (at - i) d) ≡ true

pub position_is : {X : Type 0} (test : X → Bool) (i : ℕ) (xs : List X) (at : ℕ)
    → position_from test i xs ≡ Some at → IsFoundAt test i xs at
position_is test i [] at is = cc
position_is {X} test i (x ∷ xs) at is =
    elim (test x) as
    (λ b. test x ≡ b → cond b (Some i) (position_from test (i + 1) xs) ≡ Some at
    → IsFoundAt test i (x ∷ xs) at) [
      | true ↦ λ passes is.
          let same : i ≡ at = cc in
          record {
            from = omega arith;
            within = omega arith;
            passes = λ d. let none : at - i ≡ zero = omega arith in
                subst (λ (k : ℕ). test (get_or (x ∷ xs) k d) ≡ true) (sym none) passes;
          }
      | false ↦ λ fails is.
          let rest = position_is test (i + 1) xs at is in
          record {
            from = omega (arith, rest.from);
            within = omega (arith, rest.within);
            passes = λ d.
                let more : at - i ≡ suc (at - (i + 1)) = omega (arith, rest.from) in
                subst (λ (k : ℕ). test (get_or (x ∷ xs) k d) ≡ true) (sym more) (rest.passes d);
          }
    ] refl is

-- every number below this one passes
unfoldable pub all_below : (ℕ → Bool) → ℕ → Bool
all_below test zero = true
all_below test (suc n) = test n && all_below test n

pub passes_below : (test : ℕ → Bool) (n k : ℕ) → all_below test n ≡ true → k < n
    → test k ≡ true
unfolding all_below
passes_below test zero k all below = absurd (omega arith)
passes_below test (suc n) k all below =
    let here : test n ≡ true = grind (arith, nat_tests) in
    let others : all_below test n ≡ true = grind (arith, nat_tests) in
    elim (k == n) as (λ b. (k == n) ≡ b → test k ≡ true) [
      | true ↦ λ is. let same : k ≡ n = grind (arith, nat_tests) in
          subst (λ (j : ℕ). test j ≡ true) (sym same) here
      | false ↦ λ is. let other : k < n = grind (arith, nat_tests) in
          passes_below test n k others other
    ] refl

unfoldable pub is_some_of : Option ℕ → ℕ → Bool
is_some_of None n = false
is_some_of (Some m) n = m == n

pub some_of : (o : Option ℕ) (n : ℕ) → is_some_of o n ≡ true → o ≡ Some n
unfolding is_some_of
some_of None n is = cc
some_of (Some m) n is = let same : m ≡ n = grind (arith, nat_tests) in ap (λ k. Some k) same
