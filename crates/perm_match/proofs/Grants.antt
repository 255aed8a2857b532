-- Which grants and needs are among others.
use Rattle.std.proofs.Common.{◌≡◌, ◌∙◌, ℕ, zero, suc, ◌+◌, ◌<◌, ◌&&◌, ◌||◌, List, [], ◌∷◌, ◌++◌}
use Rattle.std.proofs.Common.{length, Bool, true, false, Some, None, cond, refl, sym, ap}
use Rattle.std.proofs.Common.{subst, arith, get_or}
use Rattle.std.specs.Prelude.{not}
use Rattle.std.specs.List.{Contains, list_any, list_all, position_from}
use Rattle.perm_match.proofs.Ends.{or_left, or_right}

pub record IsPassed {X : Type 0} (P : X → Bool) (xs : List X) : Type 0 where
  pub item : X
  pub among : Contains xs item
  pub passes : P item ≡ true

pub passed_of : {X : Type 0} (P : X → Bool) (xs : List X) → list_any P xs ≡ true → IsPassed P xs
passed_of P [] is = cc
passed_of {X} P (x ∷ xs) is =
    elim (P x) as (λ b. P x ≡ b → (b || list_any P xs) ≡ true → IsPassed P (x ∷ xs)) [
      | true ↦ λ passes is. record { item = x; among = (0, omega arith, refl); passes = passes }
      | false ↦ λ fails is. let later = passed_of P xs is in record {
        item = later.item;
        among = (suc later.among.0, omega (arith, later.among.1), later.among.2);
        passes = later.passes;
      }
    ] refl is

pub any_at : {X : Type 0} (P : X → Bool) (xs : List X) (x : X) (k : ℕ) → k < length xs
    → get_or xs k x ≡ x → P x ≡ true → list_any P xs ≡ true
any_at P [] x k within is passes = absurd (omega arith)
any_at {X} P (y ∷ ys) x zero within is passes =
    or_left (P y) _ (subst (λ (z : X). P z ≡ true) (sym is) passes)
any_at P (y ∷ ys) x (suc k) within is passes =
    or_right (P y) _ (any_at P ys x k (omega arith) is passes)

pub any_more : {X : Type 0} (P : X → Bool) (fewer more : List X)
    → ((x : X) → Contains fewer x → Contains more x)
    → list_any P fewer ≡ true → list_any P more ≡ true
any_more P fewer more among is =
    let passed = passed_of P fewer is in
    let there = among passed.item passed.among in
    any_at P more passed.item there.0 there.1 there.2 passed.passes

-- the first item that fails
pub record IsFirstFailed {X : Type 0} (P : X → Bool) (xs : List X) (i at : ℕ) : Type 0 where
  pub before : List X
  pub failed : X
  pub behind : List X
  pub split : xs ≡ before ++ (failed ∷ behind)
  pub place : i + length before ≡ at
  pub passes : list_all P before ≡ true
  pub fails : P failed ≡ false

pub first_failed : {X : Type 0} (P : X → Bool) (i : ℕ) (xs : List X) (at : ℕ)
    → position_from (λ x. not (P x)) i xs ≡ Some at → IsFirstFailed P xs i at
first_failed P i [] at is = cc
first_failed {X} P i (x ∷ xs) at is =
    elim (P x) as
    (λ b. P x ≡ b
    → cond (not b) (Some i) (position_from (λ (y : X). not (P y)) (i + 1) xs) ≡ Some at
    → IsFirstFailed P (x ∷ xs) i at) [
      | true ↦ λ passes is. let later = first_failed P (i + 1) xs at is in record {
        before = x ∷ later.before;
        failed = later.failed;
        behind = later.behind;
        split = ap (λ t. x ∷ t) later.split;
        place = omega (arith, later.place);
        passes = ap (λ b. b && list_all P later.before) passes ∙ later.passes;
        fails = later.fails;
      }
      | false ↦ λ fails is. record {
        before = [];
        failed = x;
        behind = xs;
        split = refl;
        place = let same : i ≡ at = cc in omega arith;
        passes = refl;
        fails = fails;
      }
    ] refl is

pub none_fails : {X : Type 0} (P : X → Bool) (i : ℕ) (xs : List X)
    → position_from (λ x. not (P x)) i xs ≡ None → list_all P xs ≡ true
none_fails P i [] is = refl
none_fails {X} P i (x ∷ xs) is =
    elim (P x) as
    (λ b. P x ≡ b → cond (not b) (Some i) (position_from (λ (y : X). not (P y)) (i + 1) xs) ≡ None
    → (b && list_all P xs) ≡ true) [
      | true ↦ λ passes is. none_fails P (i + 1) xs is
      | false ↦ λ fails is. cc
    ] refl is

pub all_pass : {X : Type 0} (P : X → Bool) (i : ℕ) (xs : List X) → list_all P xs ≡ true
    → position_from (λ x. not (P x)) i xs ≡ None
all_pass P i [] is = refl
all_pass {X} P i (x ∷ xs) is =
    elim (P x) as
    (λ b. P x ≡ b → (b && list_all P xs) ≡ true
    → cond (not b) (Some i) (position_from (λ (y : X). not (P y)) (i + 1) xs) ≡ None) [
      | true ↦ λ passes is. all_pass P (i + 1) xs is
      | false ↦ λ fails is. cc
    ] refl is
