-- Chains of references where nothing leads back to itself.
use Rattle.std.proofs.Common.{◌≡◌, ◌<◌, ◌≤◌, ◌⊎◌, ℕ, zero, suc, List, [], ◌∷◌, length, Bool, true}
use Rattle.std.proofs.Common.{false, refl, sym, ap, subst, arith, inl, inr}
use Rattle.std.specs.Prelude.{nat_eq, ◌||◌}
use Rattle.std.specs.List.{IsDistinct, AllByRecursion, list_any}
use Rattle.std.proofs.lemmas.Bool.{eqb-true}
use Rattle.std.proofs.lemmas.Map.Steps.{length-le_from_distinct_below}
use Rattle.reference_cycles.proofs.Leading.{refers_within}
use Rattle.reference_cycles.specs.Graph.{Chain, HasNoCycle}

-- a test of two options holds on one side
one_holds : (first later : Bool) → (first || later) ≡ true → (first ≡ true) ⊎ (later ≡ true)
one_holds true later is = inl refl
one_holds false later is = inr is

not_true : (test : Bool) → (test ≡ true → ⊥) → test ≡ false
not_true true isnt = absurd (isnt refl)
not_true false isnt = refl

module _ (graph : List (List ℕ)) where
  -- the places of a chain, in order
  places : (steps from to : ℕ) → Chain graph steps from to → List ℕ
  places zero from to chain = from ∷ []
  places (suc steps) from to chain = from ∷ places steps chain.0 to chain.2

  as_many : (steps from to : ℕ) (chain : Chain graph steps from to)
      → length (places steps from to chain) ≡ suc steps
  unfolding places
  as_many zero from to chain = refl
  as_many (suc steps) from to chain = ap suc (as_many steps chain.0 to chain.2)

  -- what is asked of each place of a chain holds of all of them
  each : (P : ℕ → Type 0) (steps from to : ℕ) (chain : Chain graph steps from to)
      → ((count place : ℕ) → Chain graph count from place → (more : ℕ) → Chain graph more place to
      → P place)
      → AllByRecursion P (places steps from to chain)
  unfolding places
  each P zero from to chain holds = (holds 0 from refl 0 chain, tt)
  each P (suc steps) from to chain holds = (
    holds 0 from refl (suc steps) chain,
    each P steps chain.0 to chain.2
        (λ count place before more behind.
        holds (suc count) place (chain.0, chain.1, before) more behind),
  )

  -- a place with references to a place of the graph is one itself
  within : (steps place to : ℕ) → Chain graph steps place to → to < length graph
      → place < length graph
  within zero place to chain lower = subst (λ n. n < length graph) (sym chain) lower
  within (suc steps) place to chain lower = refers_within graph place chain.0 chain.1

  module _ (none : HasNoCycle graph) where
    -- no place comes again
    differ : (steps from to : ℕ) (chain : Chain graph steps from to)
        → IsDistinct nat_eq (places steps from to chain)
    unfolding places IsDistinct
    differ zero from to chain = (tt, tt)
    differ (suc steps) from to chain = (
      each (λ place. nat_eq from place ≡ false) steps chain.0 to chain.2
          (λ count place before more behind.
          not_true (nat_eq from place)
          (λ same.
          none from (
            count,
            subst (λ p. Chain graph (suc count) from p)
                (sym (eqb-true from place same)) (chain.0, chain.1, before),
          ))),
      differ steps chain.0 to chain.2,
    )

    among_within : (bound : ℕ) (all : List ℕ) → AllByRecursion (λ n. n < bound) all → (q : ℕ)
        → list_any (nat_eq q) all ≡ true → q < bound
    among_within bound [] holds q is = absurd (cc is)
    among_within bound (n ∷ all) holds q is =
        elim (one_holds (nat_eq q n) (list_any (nat_eq q) all) is) [
          | inl same ↦ subst (λ m. m < bound) (sym (eqb-true q n same)) holds.0
          | inr later ↦ among_within bound all holds.1 q later
        ]

    -- a chain to a place of the graph has fewer references than the graph has places
    pub is_short : (steps from to : ℕ) → Chain graph steps from to → to < length graph
        → steps < length graph
    is_short steps from to chain lower =
        let all = places steps from to chain in
        let few : length all ≤ length graph =
        length-le_from_distinct_below all (length graph) (differ steps from to chain)
        (among_within (length graph) all
        (each (λ n. n < length graph) steps from to chain
        (λ count place before more behind. within more place to behind lower))) in
        let count = as_many steps from to chain in omega arith
